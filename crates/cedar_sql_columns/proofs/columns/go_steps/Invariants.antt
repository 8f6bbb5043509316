use Rattle.std.proofs.Common.{◌≡◌, drop}
use Rattle.json.specs.Value.{items_view}
use Rattle.cedar_sql_columns.specs.Said.{the_entity, steps_said}
use Rattle.cedar_sql_columns.specs.Tables.{operand_view}
use Rattle.cedar_sql_columns.proofs.columns.go_steps.Given as goal

abbrev pub invariant-items : goal.invariant-items
invariant-items l =
    (l.index ≡ l.item-index) × (steps_said the_entity 0 (items_view l.item-items)
    ≡ steps_said (operand_view l.operand) l.index (items_view (drop l.item-index l.item-items)))
