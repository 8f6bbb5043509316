use Rattle.std.proofs.Common.{◌≡◌, ◌++◌, map}
use Rattle.json.specs.Json.{string}
use Rattle.cedar_layers.specs.Policies.{policy_view}
use Rattle.cedar_layers.specs.PolicySets.{policies_left, policies_view}
use Rattle.cedar_authorizer.specs.responses.Responses.{has_id}
use Rattle.cedar_json_writer.specs.Trees.{json_view}
use Rattle.cedar_cli.specs.Named.{ids_where}
use Rattle.cedar_cli.proofs.documents.reasons_as_json.Given as goal

-- those that are written, and those that are left
abbrev pub invariant-policies : goal.invariant-policies
invariant-policies l =
    map json_view l.ids.items
    ++ map string (ids_where (has_id l.fn.reasons) (map policy_view (policies_left l.policy-iterator)))
    ≡ map string (ids_where (has_id l.fn.reasons) (policies_view l.fn.policies))
