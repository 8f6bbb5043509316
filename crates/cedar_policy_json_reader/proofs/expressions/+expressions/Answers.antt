use Rattle.std.proofs.Common.{◌≡◌, ℕ, ◌+◌, [], ◌∷◌, ◌++◌, List, drop, map, refl, sym, ap, ◌∙◌, arith, Global}
use Rattle.std.specs.Borrow.{Bor}
use Rattle.std.proofs.lemmas.List.{drop_more}
use Rattle.json.specs.Value.{value_view, items_view, members_view}
use Rattle.json.specs.declared.value.Value.{Value}
use Rattle.cedar_expressions.specs.Records.{pairs_view}
use Rattle.cedar_expressions.specs.View.{view}
use Rattle.cedar_functions.specs.Functions.{knowledge}
use Rattle.cedar_model.specs.Terms.{Term}
use Rattle.cedar_policy_json_reader.specs.declared.errors.RefusalReason.TheVariants as reasons
use Rattle.cedar_policy_json_reader.specs.Bounds.{within}
use Rattle.cedar_policy_json_reader.specs.Expressions.{items_said, member_said, members_said}
use Rattle.cedar_policy_json_reader.specs.Paths.{at_index}
use Rattle.cedar_policy_json_reader.specs.Refusals.{under, made_of}
use Rattle.cedar_policy_json_reader.proofs.Levels.{too_deep}
use Rattle.cedar_policy_json_reader.proofs.Lists.{nothing_read}
use Rattle.cedar_policy_json_reader.proofs.Refused.{one_more_done, refused_at, refused_same}
use Rattle.cedar_policy_json_reader.proofs.expressions.+expressions.Goals as goal

pub read_expression-returns-then-bounds-eq0-clause-refused : goal.read_expression-returns-then-bounds-eq0-clause-refused
read_expression-returns-then-bounds-eq0-clause-refused t c =
    let b = c.args.bounds in
    let none : b.limit ≡ 0 = omega arith in
    refused_same _ _ c.refusal.result (too_deep b.is_doubled (knowledge b.functions.now) b.limit (value_view c.args.json.now) none)
    (refused_at Term [] reasons.TooDeep c.refusal.result c.refusal.ensures)

pub read_items-items-init : goal.read_items-items-init
read_items-items-init t c = (refl, nothing_read _ _ _ c.requires)

pub read_items-items-preserved : goal.read_items-items-preserved
read_items-items-preserved t c =
    let l = c.items in
    let xs = c.deref-item-items.result.now in
    let x = c.item-item.result in
    let says = within c.args.bounds in
    let here : drop l.item-index xs ≡ x ∷ drop (l.item-index + 1) xs = drop_more xs l.item-index x (omega arith) ∙ ap (λ y. y ∷ drop (l.item-index + 1) xs) (sym c.item-item.is) in
    let done = map view l.elements.items in (
      ap (λ (n : ℕ). n + 1) l.invariant.0,
      one_more_done _ done (under (at_index l.index) (says (value_view x))) (items_said says (l.index + 1) (items_view (drop (l.item-index + 1) xs))) _
          (l.invariant.1 ∙ ap (λ (ys : List (Value Global)). made_of (λ ts. done ++ ts) (items_said says l.index (items_view ys))) here) c.in_ok-read_item.ensures.said,
    )

pub read_members-members-preserved : goal.read_members-members-preserved
read_members-members-preserved t c =
    let l = c.members in
    let xs = c.deref-member-items.result.now in
    let x = c.member-item.result in
    let says = within c.args.bounds in
    let here : drop l.member-index xs ≡ x ∷ drop (l.member-index + 1) xs = drop_more xs l.member-index x (omega arith) ∙ ap (λ y. y ∷ drop (l.member-index + 1) xs) (sym c.member-item.is) in
    let done = pairs_view l.pairs.items in
    one_more_done _ done (member_said says x.0.now (value_view x.1)) (members_said says (members_view (drop (l.member-index + 1) xs))) _
    (l.invariant ∙ ap (λ (ys : List (Bor (List ℕ) × Value Global)). made_of (λ ps. done ++ ps) (members_said says (members_view ys))) here) c.in_ok-read_member.ensures.said
