use Rattle.std.proofs.Common.{◌∙◌}
use Rattle.cedar_builder.proofs.Saying.{policy_made}
use Rattle.cedar_builder.proofs.policies.policy_of.Goals as goal

pub returns-clause-view : goal.returns-clause-view
returns-clause-view c =
    let p = c.args.parts in
    c.in_ok-policy.ensures.view
    ∙ policy_made p.effect p.id p.annotations p.principal p.action p.resource c.condition_or_true-when.result p.condition c.new-env.result
    c.condition_or_true-when.ensures c.new-env.ensures.empty
