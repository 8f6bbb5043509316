use Rattle.std.proofs.Common.{◌≡◌, ◌++◌, map}
use Rattle.json.specs.Json.{string}
use Rattle.cedar_authorizer.specs.responses.Readers.{policies_left}
use Rattle.cedar_json_writer.specs.Trees.{json_view}
use Rattle.cedar_json_writer.specs.Reading.{policy_ids}
use Rattle.cedar_json_writer.proofs.ids.policy_ids_to_json.Given as goal

-- those that are written, and those that are left
abbrev pub invariant-policies : goal.invariant-policies
invariant-policies l =
    map json_view l.texts.items ++ map string (policy_ids (policies_left l.policy-iterator))
    ≡ map string (policy_ids (policies_left l.fn.policies))
