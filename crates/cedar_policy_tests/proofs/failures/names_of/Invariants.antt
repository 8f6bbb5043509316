use Rattle.std.proofs.Common.{◌≡◌, ◌++◌, drop, map, string_bytes}
use Rattle.json.specs.Value.{items_view}
use Rattle.cedar_policy_tests.specs.Said.{text_list}
use Rattle.cedar_policy_tests.proofs.failures.names_of.Given as goal

-- those that are put, and those that are left
abbrev pub invariant-names : goal.invariant-names
invariant-names l =
    map string_bytes l.texts.items ++ text_list (items_view (drop l.name-index l.name-items))
    ≡ text_list (items_view l.name-items)
