use Rattle.std.proofs.Common.{◌≡◌, ℕ, ◌+◌, ◌∷◌, List, drop, sym, ap, ◌∙◌, arith, Global}
use Rattle.std.proofs.lemmas.List.{drop_more}
use Rattle.json.specs.Value.{items_view}
use Rattle.json.specs.declared.value.Value.{Value}
use Rattle.cedar_sql_columns.specs.Refusals.{and_then}
use Rattle.cedar_sql_columns.specs.Said.{steps_said}
use Rattle.cedar_sql_columns.specs.Tables.{operand_view}
use Rattle.cedar_sql_columns.proofs.columns.go_steps.Goals as goal

pub items-preserved : goal.items-preserved
items-preserved c =
    let l = c.items in
    let xs = c.deref-item-items.result.now in
    let x = c.item-item.result in
    let here : drop l.item-index xs ≡ x ∷ drop (l.item-index + 1) xs = drop_more xs l.item-index x (omega arith) ∙ ap (λ y. y ∷ drop (l.item-index + 1) xs) (sym c.item-item.is) in
    let rest = items_view (drop (l.item-index + 1) xs) in (
      ap (λ (n : ℕ). n + 1) l.invariant.0,
      l.invariant.1 ∙ ap (λ (ys : List (Value Global)). steps_said (operand_view l.operand) l.index (items_view ys)) here
          ∙ ap (and_then (λ q. steps_said q (l.index + 1) rest)) c.in_ok-operand.ensures.said,
    )
