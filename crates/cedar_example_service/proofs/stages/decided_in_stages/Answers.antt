use Rattle.std.proofs.Common.{◌≡◌, ◌↔◌}
use Rattle.cedar_policy_core.specs.Model.Policies.{allow}
use Rattle.cedar_policy_core.specs.Ast.Names.{uid_name}
use Rattle.cedar_policy_core.specs.Ast.PolicySets.{policies_view}
use Rattle.cedar_example_service.specs.Stages.{IsForOwner}
use Rattle.cedar_example_service.proofs.Decided.{each_decision}
use Rattle.cedar_example_service.proofs.stages.decided_in_stages.Goals as goal

pub returns : goal.returns
returns c =
    let owner = uid_name c.args.owner.now in
    let user = uid_name c.args.user.now in
    each_decision (IsForOwner (policies_view c.in_ok-policies.policies) user)
    (λ d. (d ≡ allow) ↔ (user ≡ owner))
    (λ d h. h owner c.in_ok-policies.ensures)
    c.decided_for-decision.result c.decided_for-decision.ensures
