use Rattle.std.proofs.Common.{drop}
use Rattle.cedar_extensions.specs.Extensions.{extensions_view, calls_of}
use Rattle.cedar_cli.proofs.Stepping.{AreInputsSoFar}
use Rattle.cedar_cli.proofs.steps.step_inputs.Given as goal

abbrev pub invariant-steps : goal.invariant-steps
invariant-steps g l =
    AreInputsSoFar (extensions_view l.fn.extensions) (calls_of l.fn.extensions) l.fn.steps
    (drop l.step-index l.steps) l.inputs.items
