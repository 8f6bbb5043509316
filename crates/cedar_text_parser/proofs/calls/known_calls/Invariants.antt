use Rattle.std.proofs.Common.{take}
use Rattle.cedar_functions.specs.Functions.{knowledge}
use Rattle.cedar_text_parser.specs.Calls.{AreKnownSteps}
use Rattle.cedar_text_parser.proofs.calls.known_calls.Given as goal

abbrev pub invariant-loop-step : goal.invariant-loop-step
invariant-loop-step l = AreKnownSteps (knowledge l.functions) l.source (take l.step-index l.steps)
