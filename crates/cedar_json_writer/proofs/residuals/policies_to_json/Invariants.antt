use Rattle.std.proofs.Common.{◌≡◌, ◌++◌}
use Rattle.cedar_authorizer.specs.responses.Readers.{policies_left}
use Rattle.cedar_json_writer.specs.Trees.{members_seen}
use Rattle.cedar_json_writer.specs.Reading.{policy_members}
use Rattle.cedar_json_writer.proofs.residuals.policies_to_json.Given as goal

-- those that are written, and those that are left
abbrev pub invariant-policies : goal.invariant-policies
invariant-policies l =
    members_seen l.members.items ++ policy_members (policies_left l.policy-iterator)
    ≡ policy_members (policies_left l.fn.policies)
