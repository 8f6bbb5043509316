use Rattle.std.proofs.Common.{◌≡◌, ◌++◌, map, drop}
use Rattle.std.specs.Rc.{rc_str_bytes}
use Rattle.cedar_names.specs.Names.{name_text}
use Rattle.cedar_extensions.specs.Extension.{name_of}
use Rattle.cedar_response_json_reader.proofs.extensions.put_names.Given as goal

-- those that are put, and those that are left
abbrev pub invariant-extensions : goal.invariant-extensions
invariant-extensions g l =
    map rc_str_bytes l.names.items ++ map name_text (map name_of (drop l.extension-index l.fn.extensions))
    ≡ map rc_str_bytes l.fn.names.items ++ map name_text (map name_of l.fn.extensions)
