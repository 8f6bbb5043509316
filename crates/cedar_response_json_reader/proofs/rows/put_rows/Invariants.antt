use Rattle.std.proofs.Common.{◌≡◌, ◌++◌, drop, map}
use Rattle.json.specs.Value.{items_view}
use Rattle.cedar_functions.specs.Functions.{knowledge}
use Rattle.cedar_response_json_reader.specs.Refusals.{made_of}
use Rattle.cedar_response_json_reader.specs.Rows.{held_row, rows_from}
use Rattle.cedar_response_json_reader.proofs.rows.put_rows.Given as goal

abbrev pub invariant-items : goal.invariant-items
invariant-items l =
    (l.index ≡ l.item-index) × (rows_from (knowledge l.fn.functions) l.fn.limit 0 (items_view l.item-items)
    ≡ made_of (λ ts. map held_row l.rows.items ++ ts)
    (rows_from (knowledge l.fn.functions) l.fn.limit l.index (items_view (drop l.item-index l.item-items))))
