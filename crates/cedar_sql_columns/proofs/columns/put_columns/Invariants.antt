use Rattle.std.proofs.Common.{◌≡◌, ◌+◌, drop, map}
use Rattle.json.specs.Value.{members_view}
use Rattle.cedar_sql_columns.specs.Said.{columns_said, columns_after}
use Rattle.cedar_sql_columns.specs.Tables.{column_view}
use Rattle.cedar_sql_columns.proofs.columns.put_columns.Given as goal

abbrev pub invariant-members : goal.invariant-members
invariant-members l =
    (l.place ≡ l.first + l.member-index) × (columns_said l.first (members_view l.member-items)
    ≡ columns_after (map column_view l.columns.items) l.place (members_view (drop l.member-index l.member-items)))
