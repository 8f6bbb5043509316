use Rattle.std.proofs.Common.{◌≡◌, ◌+◌, List, [], ◌∷◌, ◌++◌, drop, map, sym, ap, ◌∙◌, append_assoc, arith}
use Rattle.std.proofs.lemmas.List.{drop_more}
use Rattle.cedar_layers.specs.declared.policies.policy.Policy.{Policy}
use Rattle.cedar_response_json_reader.specs.declared.reports.Report.{Report}
use Rattle.cedar_response_json_reader.specs.Rows.{held_row}
use Rattle.cedar_response_json_reader.proofs.Sheeted.{one_noted}
use Rattle.cedar_response_json_reader.proofs.sheets.note_rows.Goals as goal

pub rows-preserved : goal.rows-preserved
rows-preserved c =
    let held = c.rows.invariant in
    let xs = c.deref-row-items.result.now in
    let x = c.row-item.result in
    let i = c.rows.row-index in
    let here : drop i xs ≡ x ∷ drop (i + 1) xs = drop_more xs i x (omega arith) ∙ ap (λ y. y ∷ drop (i + 1) xs) (sym c.row-item.is) in (
      held.0 ++ held_row x ∷ [],
      one_noted held.0 (held_row x) c.rows.sheet c.note_row.new.sheet held.1 c.in_ok-note_row.ensures,
      append_assoc held.0 (held_row x ∷ []) (map held_row (drop (i + 1) xs))
          ∙ ap (λ (ys : List (Report × Policy)). held.0 ++ map held_row ys) (sym here) ∙ held.2,
    )
