use Rattle.std.proofs.Common.{◌≡◌, map}
use Rattle.cedar_layers.specs.Policies.{policy_view, policy_id_text}
use Rattle.cedar_layers.specs.PolicySets.{policies_left, policies_view}
use Rattle.cedar_expectations.specs.Named.{name_under}
use Rattle.cedar_expectations.proofs.names.name_under.Given as goal

-- the name is that among the policies that are left
abbrev pub invariant-policies : goal.invariant-policies
invariant-policies l =
    name_under (policy_id_text l.fn.id) (map policy_view (policies_left l.policy-iterator))
    ≡ name_under (policy_id_text l.fn.id) (policies_view l.fn.policies)
