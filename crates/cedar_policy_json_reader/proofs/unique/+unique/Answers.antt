use Rattle.std.proofs.Common.{◌≡◌, ℕ, ◌+◌, ◌<◌, List, ◌∷◌, length, drop, sym, ap, ◌∙◌, subst, arith, Global, Bor}
use Rattle.std.proofs.lemmas.List.{drop_more}
use Rattle.json.specs.Tree.{json_tokens, items_tokens, members_tokens}
use Rattle.json.specs.Value.{value_view, items_view, members_view}
use Rattle.json.specs.declared.value.Value.{Value}
use Rattle.json.proofs.Trees.{item_smaller, member_smaller}
use Rattle.cedar_policy_json_reader.specs.Paths.{at_key, at_index}
use Rattle.cedar_policy_json_reader.specs.Refusals.{under}
use Rattle.cedar_policy_json_reader.specs.Repeats.{keys_said, items_said, members_said}
use Rattle.cedar_policy_json_reader.proofs.Repeats.{passed, stopped}
use Rattle.cedar_policy_json_reader.proofs.unique.+unique.Goals as goal

pub check_items-check_item-requires : goal.check_items-check_item-requires
check_items-check_item-requires t c =
    let xs = c.deref-item-items.result.now in
    let x = c.item-item.result in
    let smaller : length (json_tokens (value_view x)) < length (items_tokens (items_view c.args.items.now.items)) =
    subst (λ ys. length (json_tokens (value_view x)) < length (items_tokens (items_view ys))) c.deref-item-items.ensures.value
    (subst (λ y. length (json_tokens (value_view y)) < length (items_tokens (items_view xs))) (sym c.item-item.is) (item_smaller xs c.items.item-index x (omega arith))) in
    omega (arith, smaller)

pub check_items-items-preserved : goal.check_items-items-preserved
check_items-items-preserved t c =
    let l = c.items in
    let xs = c.deref-item-items.result.now in
    let x = c.item-item.result in
    let here : drop l.item-index xs ≡ x ∷ drop (l.item-index + 1) xs = drop_more xs l.item-index x (omega arith) ∙ ap (λ y. y ∷ drop (l.item-index + 1) xs) (sym c.item-item.is) in (
      ap (λ (n : ℕ). n + 1) l.invariant.0,
      passed _ (under (at_index l.index) (keys_said (value_view x))) (λ u. items_said (l.index + 1) (items_view (drop (l.item-index + 1) xs)))
          (l.invariant.1 ∙ ap (λ (ys : List (Value Global)). items_said l.index (items_view ys)) here) c.in_ok-check_item.ensures.said,
    )

pub check_members-check_member-requires : goal.check_members-check_member-requires
check_members-check_member-requires t c =
    let xs = c.deref-member-items.result.now in
    let x = c.member-item.result in
    let smaller : length (json_tokens (value_view x.1)) < length (members_tokens (members_view c.args.members.now.items)) =
    subst (λ ys. length (json_tokens (value_view x.1)) < length (members_tokens (members_view ys))) c.deref-member-items.ensures.value
    (subst (λ y. length (json_tokens (value_view y.1)) < length (members_tokens (members_view xs))) (sym c.member-item.is) (member_smaller xs c.members.member-index x (omega arith))) in
    omega (arith, smaller)

pub check_members-members-preserved : goal.check_members-members-preserved
check_members-members-preserved t c =
    let l = c.members in
    let xs = c.deref-member-items.result.now in
    let x = c.member-item.result in
    let here : drop l.member-index xs ≡ x ∷ drop (l.member-index + 1) xs = drop_more xs l.member-index x (omega arith) ∙ ap (λ y. y ∷ drop (l.member-index + 1) xs) (sym c.member-item.is) in
    passed _ (under (at_key x.0.now) (keys_said (value_view x.1))) (λ u. members_said (members_view (drop (l.member-index + 1) xs)))
    (l.invariant ∙ ap (λ (ys : List (Bor (List ℕ) × Value Global)). members_said (members_view ys)) here) c.in_ok-check_member.ensures.said
