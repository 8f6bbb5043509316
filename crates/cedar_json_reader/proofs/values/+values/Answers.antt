use Rattle.std.proofs.Common.{◌≡◌, ℕ, ◌+◌, ◌*◌, ◌<◌, ◌∷◌, ◌++◌, List, Bool, true, false, cond, map, drop, Some, Ok, IfOk, IfErr, refl, sym, ap, ◌∙◌, subst, arith, rules, Global}
use Rattle.std.specs.Prelude.{bytes_eq, codes}
use Rattle.std.specs.Borrow.{Bor}
use Rattle.std.proofs.lemmas.List.{drop_more}
use Rattle.json.specs.Json.{object}
use Rattle.json.specs.Value.{value_view, items_view, members_view}
use Rattle.json.specs.declared.value.Value.{Value}
use Rattle.json.proofs.Trees.{item_smaller, member_smaller}
use Rattle.cedar_model.specs.Terms.{Term, Terms, set_of}
use Rattle.cedar_restricted.specs.Views.{restricted_term}
use Rattle.cedar_json_reader.specs.Paths.{at_key, at_index}
use Rattle.cedar_json_reader.specs.Refusals.{Said, under, made_of, IsRefusal}
use Rattle.cedar_json_reader.specs.Shapes.{sole, call_shape, parts_view}
use Rattle.cedar_json_reader.specs.Said.{said, said_items, said_members, said_call, entity_said, member_said, set_said, record_said}
use Rattle.cedar_json_reader.specs.Lists.{pairs_said, shape_said}
use Rattle.cedar_json_reader.proofs.Smaller.{size, items_size, members_size}
use Rattle.cedar_json_reader.proofs.Refused.{refused_under, refused_same, one_more_done}
use Rattle.cedar_json_reader.proofs.Reading.{by_shape, call_by_shape, sole_object, terms_read, none_read}
use Rattle.cedar_json_reader.proofs.values.+values.Goals as goal

pub read_call-returns-in-Ok-clause-said : goal.read_call-returns-in-Ok-clause-said
read_call-returns-in-Ok-clause-said t c =
    let j = value_view c.args.call.now in
    let here : Some (parts_view c.in-Some.shape) ≡ call_shape j = c.in-Some.ensures in
    let same : said_call j ≡ shape_said (parts_view c.in-Some.shape) = call_by_shape j ∙ ap by_shape (sym here) in
    ap (under (at_key (codes "__extn"))) (same ∙ c.in-Ok.ensures.said)

pub read_call-returns-in-Err-clause-refused : goal.read_call-returns-in-Err-clause-refused
read_call-returns-in-Err-clause-refused t c =
    let j = value_view c.args.call.now in
    let here : Some (parts_view c.in-Some.shape) ≡ call_shape j = c.in-Some.ensures in
    let same : said_call j ≡ shape_said (parts_view c.in-Some.shape) = call_by_shape j ∙ ap by_shape (sym here) in
    refused_under (at_key (codes "__extn")) (said_call j) c.in-Err.error c.under_key.result
    (refused_same (said_call j) (shape_said (parts_view c.in-Some.shape)) c.in-Err.error same c.in-Err.ensures.refused) c.under_key.ensures

pub read_items-items-init : goal.read_items-items-init
read_items-items-init t c = (refl, none_read _ _ c.requires)

pub read_items-read_item-requires : goal.read_items-read_item-requires
read_items-read_item-requires t c =
    let xs = c.deref-item-items.result.now in
    let x = c.item-item.result in
    let smaller : size (value_view x) < items_size (items_view c.args.items.now.items) =
    subst (λ ys. size (value_view x) < items_size (items_view ys)) c.deref-item-items.ensures.value
    (subst (λ y. size (value_view y) < items_size (items_view xs)) (sym c.item-item.is) (item_smaller xs c.items.item-index x (omega arith))) in
    let less : 8 * size (value_view x) + 1 < 8 * items_size (items_view c.args.items.now.items) + 1 = omega (arith, smaller) in
    search rules

pub read_items-items-preserved : goal.read_items-items-preserved
read_items-items-preserved t c =
    let l = c.items in
    let xs = c.deref-item-items.result.now in
    let x = c.item-item.result in
    let here : drop l.item-index xs ≡ x ∷ drop (l.item-index + 1) xs = drop_more xs l.item-index x (omega arith) ∙ ap (λ y. y ∷ drop (l.item-index + 1) xs) (sym c.item-item.is) in
    let done = map restricted_term l.elements.items in (
      ap (λ (n : ℕ). n + 1) l.invariant.0,
      one_more_done _ done (under (at_index l.index) (said (value_view x))) (said_items (l.index + 1) (items_view (drop (l.item-index + 1) xs))) _
          (l.invariant.1 ∙ ap (λ (ys : List (Value Global)). made_of (λ ts. done ++ ts) (said_items l.index (items_view ys))) here) c.in_ok-read_item.ensures.said,
    )

pub read_members-read_member-requires : goal.read_members-read_member-requires
read_members-read_member-requires t c =
    let xs = c.deref-member-items.result.now in
    let x = c.member-item.result in
    let smaller : size (value_view x.1) < members_size (members_view c.args.members.now.items) =
    subst (λ ys. size (value_view x.1) < members_size (members_view ys)) c.deref-member-items.ensures.value
    (subst (λ y. size (value_view y.1) < members_size (members_view xs)) (sym c.member-item.is) (member_smaller xs c.members.member-index x (omega arith))) in
    let less : 8 * size (value_view x.1) + 1 < 8 * members_size (members_view c.args.members.now.items) + 1 = omega (arith, smaller) in
    search rules

pub read_members-members-preserved : goal.read_members-members-preserved
read_members-members-preserved t c =
    let l = c.members in
    let xs = c.deref-member-items.result.now in
    let x = c.member-item.result in
    let here : drop l.member-index xs ≡ x ∷ drop (l.member-index + 1) xs = drop_more xs l.member-index x (omega arith) ∙ ap (λ y. y ∷ drop (l.member-index + 1) xs) (sym c.member-item.is) in
    let done = pairs_said l.pairs.items in
    one_more_done _ done (member_said x.0.now (said (value_view x.1))) (said_members (members_view (drop (l.member-index + 1) xs))) _
    (l.invariant ∙ ap (λ (ys : List (Bor (List ℕ) × Value Global)). made_of (λ ps. done ++ ps) (said_members (members_view ys))) here) c.in_ok-read_member.ensures.said

pub read_object-returns-then-eq-clause-refused : goal.read_object-returns-then-eq-clause-refused
read_object-returns-then-eq-clause-refused t c =
    let ms = members_view c.args.members.now.items in
    let k = c.in-Some.key.now in
    let j = value_view c.in-Some.value.now in
    let here : Some (k, j) ≡ sole ms = c.in-Some.ensures in
    let is : bytes_eq k (codes "__entity") ≡ true = grind arith in
    let same : said (object ms) ≡ entity_said j =
    sole_object ms k j here ∙ ap (λ (b : Bool). cond b (entity_said j) (cond (bytes_eq k (codes "__extn")) (under (at_key (codes "__extn")) (said_call j)) (record_said (said_members ms)))) is in
    subst (λ (s : Said Term). IfErr c.entity.result (IsRefusal s)) (sym same) c.entity.ensures.refused

pub read_object-returns-then-eq-2-clause-said : goal.read_object-returns-then-eq-2-clause-said
read_object-returns-then-eq-2-clause-said t c =
    let ms = members_view c.args.members.now.items in
    let k = c.in-Some.key.now in
    let j = value_view c.in-Some.value.now in
    let here : Some (k, j) ≡ sole ms = c.in-Some.ensures in
    let other : bytes_eq k (codes "__entity") ≡ false = grind arith in
    let is : bytes_eq k (codes "__extn") ≡ true = grind arith in
    let called = under (at_key (codes "__extn")) (said_call j) in
    let same : said (object ms) ≡ called =
    sole_object ms k j here ∙ ap (λ (b : Bool). cond b (entity_said j) (cond (bytes_eq k (codes "__extn")) called (record_said (said_members ms)))) other
    ∙ ap (λ (b : Bool). cond b called (record_said (said_members ms))) is in
    subst (λ (s : Said Term). IfOk c.read_call.result (λ r. s ≡ Ok (restricted_term r))) (sym same) c.read_call.ensures.said

pub read_object-returns-then-eq-2-clause-refused : goal.read_object-returns-then-eq-2-clause-refused
read_object-returns-then-eq-2-clause-refused t c =
    let ms = members_view c.args.members.now.items in
    let k = c.in-Some.key.now in
    let j = value_view c.in-Some.value.now in
    let here : Some (k, j) ≡ sole ms = c.in-Some.ensures in
    let other : bytes_eq k (codes "__entity") ≡ false = grind arith in
    let is : bytes_eq k (codes "__extn") ≡ true = grind arith in
    let called = under (at_key (codes "__extn")) (said_call j) in
    let same : said (object ms) ≡ called =
    sole_object ms k j here ∙ ap (λ (b : Bool). cond b (entity_said j) (cond (bytes_eq k (codes "__extn")) called (record_said (said_members ms)))) other
    ∙ ap (λ (b : Bool). cond b called (record_said (said_members ms))) is in
    subst (λ (s : Said Term). IfErr c.read_call.result (IsRefusal s)) (sym same) c.read_call.ensures.refused

pub read_set-returns-in-Ok-set-clause-said : goal.read_set-returns-in-Ok-set-clause-said
read_set-returns-in-Ok-set-clause-said t c =
    ap set_said c.in-Ok.ensures.said ∙ ap (λ (ts : Terms). Ok (set_of ts)) (terms_read c.read_items.new.elements.items) ∙ ap Ok (sym c.in-Ok-set.ensures.view)
