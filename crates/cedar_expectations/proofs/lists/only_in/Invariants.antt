use Rattle.std.proofs.Common.{◌≡◌, ◌++◌, map, drop, string_bytes}
use Rattle.json.specs.Json.{string}
use Rattle.cedar_json_writer.specs.Trees.{json_view}
use Rattle.cedar_expectations.specs.Lists.{only_in}
use Rattle.cedar_expectations.proofs.lists.only_in.Given as goal

-- those that are written, and those that are left
abbrev pub invariant-texts : goal.invariant-texts
invariant-texts l =
    let others = map string_bytes l.fn.others in
    map json_view l.items.items ++ map string (only_in (map string_bytes (drop l.text-index l.fn.texts)) others)
    ≡ map string (only_in (map string_bytes l.fn.texts) others)
