use Rattle.std.proofs.Common.{take}
use Rattle.cedar_text_syntax.specs.Trees.{trees}
use Rattle.cedar_text_parser.specs.Building.{Are}
use Rattle.cedar_text_parser.specs.Finished.{finished}
use Rattle.cedar_text_parser.proofs.builder.build_steps.Given as goal

abbrev pub invariant-loop-step : goal.invariant-loop-step
invariant-loop-step l = Are l.source (finished l.builder) (trees (take l.step-index l.steps))
