use Rattle.std.proofs.Common.{◌≡◌, ◌++◌, map, drop}
use Rattle.json.specs.Json.{string}
use Rattle.cedar_model.specs.Settings.{printed_entity}
use Rattle.cedar_names.specs.Names.{uid_name}
use Rattle.cedar_json_writer.specs.Trees.{json_view}
use Rattle.cedar_json_writer.proofs.left.uids_to_json.Given as goal

-- those that are written, and those that are left
abbrev pub invariant-uids : goal.invariant-uids
invariant-uids l =
    map json_view l.items.items ++ map string (map printed_entity (map uid_name (drop l.uid-index l.fn.uids)))
    ≡ map string (map printed_entity (map uid_name l.fn.uids))
