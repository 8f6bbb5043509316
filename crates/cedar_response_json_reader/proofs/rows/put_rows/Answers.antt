use Rattle.std.proofs.Common.{◌≡◌, ℕ, ◌+◌, ◌∷◌, ◌++◌, List, drop, map, refl, sym, ap, ◌∙◌, arith, Global}
use Rattle.std.proofs.lemmas.List.{drop_more}
use Rattle.json.specs.Value.{value_view, items_view}
use Rattle.json.specs.declared.value.Value.{Value}
use Rattle.cedar_functions.specs.Functions.{knowledge}
use Rattle.cedar_policy_json_reader.specs.Paths.{at_index}
use Rattle.cedar_response_json_reader.specs.Refusals.{under, made_of}
use Rattle.cedar_response_json_reader.specs.Rows.{held_row, row_said, rows_from}
use Rattle.cedar_response_json_reader.proofs.Lists.{nothing_read}
use Rattle.cedar_response_json_reader.proofs.Refused.{one_more_done}
use Rattle.cedar_response_json_reader.proofs.rows.put_rows.Goals as goal

pub items-init : goal.items-init
items-init c = (refl, nothing_read _ _ _ c.requires)

pub items-preserved : goal.items-preserved
items-preserved c =
    let l = c.items in
    let k = knowledge c.args.functions.now in
    let n = c.args.limit in
    let xs = c.deref-item-items.result.now in
    let x = c.item-item.result in
    let here : drop l.item-index xs ≡ x ∷ drop (l.item-index + 1) xs = drop_more xs l.item-index x (omega arith) ∙ ap (λ y. y ∷ drop (l.item-index + 1) xs) (sym c.item-item.is) in
    let done = map held_row l.rows.items in (
      ap (λ (m : ℕ). m + 1) l.invariant.0,
      one_more_done _ done (under (at_index l.index) (row_said k n (value_view x))) (rows_from k n (l.index + 1) (items_view (drop (l.item-index + 1) xs))) _
          (l.invariant.1 ∙ ap (λ (ys : List (Value Global)). made_of (λ ts. done ++ ts) (rows_from k n l.index (items_view ys))) here) c.in_ok-put_row.ensures.said,
    )
