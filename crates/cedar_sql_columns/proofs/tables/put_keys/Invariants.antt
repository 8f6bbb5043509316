use Rattle.std.proofs.Common.{◌≡◌, ◌++◌, drop, map}
use Rattle.std.specs.Rc.{rc_str_bytes}
use Rattle.json.specs.Strict.{keys}
use Rattle.json.specs.Value.{members_view}
use Rattle.cedar_sql_columns.proofs.tables.put_keys.Given as goal

-- the names so far, and the keys that are left
abbrev pub invariant-members : goal.invariant-members
invariant-members l =
    map rc_str_bytes l.names.items ++ keys (members_view (drop l.member-index l.member-items))
    ≡ map rc_str_bytes l.initial.names.items ++ keys (members_view l.member-items)
