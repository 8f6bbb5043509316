use Rattle.std.proofs.Common.{◌≡◌, drop, map}
use Rattle.cedar_sql_columns.specs.Said as says
use Rattle.cedar_sql_columns.specs.Tables.{column_view, operand_view}
use Rattle.cedar_sql_columns.proofs.columns.is_held.Given as goal

abbrev pub invariant-columns : goal.invariant-columns
invariant-columns l =
    says.is_held (operand_view l.attribute) (map column_view l.column-items)
    ≡ says.is_held (operand_view l.attribute) (map column_view (drop l.column-index l.column-items))
