use Rattle.std.proofs.Common.{◌≡◌, drop}
use Rattle.std.specs.Rc.{rc_str_bytes}
use Rattle.cedar_sql.specs.Columns.{column_at}
use Rattle.cedar_sql.proofs.columns.column_among.Given as goal

abbrev pub invariant-columns : goal.invariant-columns
invariant-columns l =
    column_at (drop l.column-index l.column-items) l.of (rc_str_bytes l.name) ≡ column_at l.column-items l.of (rc_str_bytes l.name)
