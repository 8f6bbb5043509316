use Rattle.std.proofs.Common.{map, string_bytes}
use Rattle.cedar_layers.specs.Policies.{policy_view}
use Rattle.cedar_layers.specs.PolicySets.{policies_left, policies_view}
use Rattle.cedar_authorizer.specs.responses.Responses.{has_id}
use Rattle.cedar_cli.proofs.Naming.{AreLinesSoFar}
use Rattle.cedar_cli.proofs.decisions.reason_names.Given as goal

abbrev pub invariant-policies : goal.invariant-policies
invariant-policies l =
    AreLinesSoFar (has_id l.fn.reasons) (policies_view l.fn.policies) (map policy_view (policies_left l.policy-iterator))
    (string_bytes l.lines)
