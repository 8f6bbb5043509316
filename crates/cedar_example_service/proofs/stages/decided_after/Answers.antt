use Rattle.cedar_policy_core.specs.Authorizer.Configured.{configuration, resolution_of, asked}
use Rattle.cedar_policy_core.specs.Authorizer.Headline.{steps_view}
use Rattle.cedar_policy_core.specs.Authorizer.Responding.{considered}
use Rattle.cedar_example_service.proofs.Decided.{decided_in}
use Rattle.cedar_example_service.proofs.stages.decided_after.Goals as goal

pub returns-in-Ok : goal.returns-in-Ok
returns-in-Ok g c =
    decided_in (configuration c.args.authorizer.now)
    (asked c.args.authorizer.now c.args.request c.args.entities.now) (considered c.args.policies.now)
    (steps_view (resolution_of c.args.authorizer.now) c.args.steps.now) c.in-Ok.response c.without_errors-decision.result c.in-Ok.ensures.headline
    c.without_errors-decision.ensures.errors c.without_errors-decision.ensures.given
