use Rattle.std.proofs.Common.{drop}
use Rattle.cedar_authorizer.specs.Configured.{configuration, resolution_of}
use Rattle.cedar_authorizer.specs.Headline.{steps_view}
use Rattle.cedar_authorizer.proofs.Chaining.{AreTaken}
use Rattle.cedar_authorizer.proofs.authorizer.steps.take_steps.Given as goal

abbrev pub invariant-steps : goal.invariant-steps
invariant-steps g l =
    AreTaken (configuration l.fn.authorizer) l.fn.first (steps_view (resolution_of l.fn.authorizer) l.fn.steps) (steps_view (resolution_of l.fn.authorizer) (drop l.step-index l.steps)) l.response
