use Rattle.std.proofs.Common.{◌≡◌, List, [], drop}
use Rattle.cedar_authorizer.specs.Configured.{configuration}
use Rattle.cedar_cli.specs.declared.asked.Step.{Step}
use Rattle.cedar_cli.specs.Inputs.{AreInputs}
use Rattle.cedar_cli.proofs.Stepping.{IsSoFar}
use Rattle.cedar_cli.proofs.steps.take_all.Given as goal

abbrev pub invariant-inputs : goal.invariant-inputs
invariant-inputs g l =
    (ss : List Step)
    → AreInputs (configuration l.fn.authorizer).extensions (configuration l.fn.authorizer).calls ss l.fn.inputs
    → l.fn.later.items ≡ []
    → IsSoFar (configuration l.fn.authorizer) l.fn.first l.fn.store.entities ss (drop l.input-index l.inputs)
    l.later.items l.store
