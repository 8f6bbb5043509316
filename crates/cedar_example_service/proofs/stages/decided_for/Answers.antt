use Rattle.cedar_policy_core.specs.Ast.Names.{uid_name}
use Rattle.cedar_policy_core.specs.Ast.PolicySets.{policies_view}
use Rattle.cedar_policy_core.specs.Ast.Substitutions.{values_for}
use Rattle.cedar_example_service.specs.Stages.{IsDecidedFor, IsForOwner}
use Rattle.cedar_example_service.proofs.Decided.{each_decision}
use Rattle.cedar_example_service.proofs.stages.decided_for.Goals as goal

pub returns : goal.returns
returns c =
    let policies = policies_view c.args.policies.now in
    let user = uid_name c.args.user.now in
    each_decision (IsDecidedFor policies (values_for c.in_ok-values.values.entries)) (IsForOwner policies user)
    (λ d h. h user c.in_ok-values.ensures)
    c.decided_with-decision.result c.decided_with-decision.ensures
