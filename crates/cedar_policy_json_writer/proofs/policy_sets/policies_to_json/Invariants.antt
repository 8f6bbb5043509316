use Rattle.std.proofs.Common.{◌≡◌, ◌++◌, map}
use Rattle.cedar_layers.specs.Policies.{policy_view}
use Rattle.cedar_layers.specs.PolicySets.{policies_left, policies_view}
use Rattle.cedar_json_writer.specs.Trees.{members_seen}
use Rattle.cedar_policy_json_writer.specs.PolicySets.{policy_member}
use Rattle.cedar_policy_json_writer.proofs.policy_sets.policies_to_json.Given as goal

-- those that are written, and those that are left
abbrev pub invariant-policies : goal.invariant-policies
invariant-policies l =
    members_seen l.members.items ++ map policy_member (map policy_view (policies_left l.policy-iterator))
    ≡ map policy_member (policies_view l.fn.policies)
