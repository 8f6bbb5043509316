use Rattle.std.proofs.Common.{◌≡◌, ◌++◌, map, drop}
use Rattle.json.specs.Json.{string}
use Rattle.cedar_names.specs.Names.{name_text}
use Rattle.cedar_extensions.specs.Extension.{name_of}
use Rattle.cedar_json_writer.specs.Trees.{json_view}
use Rattle.cedar_response_json.proofs.extensions.put_names.Given as goal

-- those that are written, and those that are left
abbrev pub invariant-extensions : goal.invariant-extensions
invariant-extensions g l =
    map json_view l.items.items ++ map string (map name_text (map name_of (drop l.extension-index l.fn.extensions)))
    ≡ map json_view l.fn.items.items ++ map string (map name_text (map name_of l.fn.extensions))
