use Rattle.std.proofs.Common.{◌≡◌, ◌++◌, map}
use Rattle.json.specs.Json.{string}
use Rattle.cedar_layers.specs.Policies.{policy_id_text}
use Rattle.cedar_json_writer.specs.Trees.{json_view}
use Rattle.cedar_json_writer.proofs.ids.ids_to_json.Given as goal

-- those that are written, and those that are left
abbrev pub invariant-ids : goal.invariant-ids
invariant-ids l =
    map json_view l.texts.items ++ map string (map policy_id_text l.id-iterator)
    ≡ map string (map policy_id_text l.fn.ids.keys)
