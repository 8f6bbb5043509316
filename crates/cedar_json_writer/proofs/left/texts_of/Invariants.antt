use Rattle.std.proofs.Common.{◌≡◌, ◌++◌, map, drop}
use Rattle.std.specs.Rc.{rc_str_bytes}
use Rattle.json.specs.Json.{string}
use Rattle.cedar_json_writer.specs.Trees.{json_view}
use Rattle.cedar_json_writer.proofs.left.texts_of.Given as goal

-- those that are written, and those that are left
abbrev pub invariant-texts : goal.invariant-texts
invariant-texts l =
    map json_view l.items.items ++ map string (map rc_str_bytes (drop l.text-index l.fn.texts))
    ≡ map string (map rc_str_bytes l.fn.texts)
