use Rattle.std.proofs.Common.{◌≡◌, ◌++◌, map, string_bytes}
use Rattle.cedar_layers.specs.Policies.{policy_view}
use Rattle.cedar_layers.specs.PolicySets.{policies_left, policies_view}
use Rattle.cedar_authorizer.specs.responses.Responses.{has_id}
use Rattle.cedar_expectations.specs.Named.{called_where}
use Rattle.cedar_expectations.proofs.names.reason_names.Given as goal

-- those that are named, and those that are left
abbrev pub invariant-policies : goal.invariant-policies
invariant-policies l =
    map string_bytes l.names.items
    ++ called_where (has_id l.fn.reasons) (map policy_view (policies_left l.policy-iterator))
    ≡ called_where (has_id l.fn.reasons) (policies_view l.fn.policies)
