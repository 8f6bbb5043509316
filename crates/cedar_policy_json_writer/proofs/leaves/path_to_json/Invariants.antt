use Rattle.std.proofs.Common.{◌≡◌, ◌∷◌, ◌++◌, map, drop}
use Rattle.std.specs.Rc.{rc_str_bytes}
use Rattle.json.specs.Json.{string}
use Rattle.cedar_json_writer.specs.Trees.{json_view}
use Rattle.cedar_policy_json_writer.proofs.leaves.path_to_json.Given as goal

-- those that are written, and those that are left
abbrev pub invariant-rest : goal.invariant-rest
invariant-rest l =
    map json_view l.items.items ++ map string (map rc_str_bytes (drop l.attr-index l.attr-items))
    ≡ map string (rc_str_bytes l.fn.attrs.first ∷ map rc_str_bytes l.fn.attrs.rest.items)
