use Rattle.std.proofs.Common.{◌≡◌}
use Rattle.cedar_text_syntax.specs.Standing.{look, Stands}
use Rattle.cedar_text_syntax.proofs.machine.expression_steps.Given as goal

abbrev pub invariant-loop-index : goal.invariant-loop-index
invariant-loop-index l =
    record { limit : l.work.limit ≡ l.limit; stands : Stands l.tokens l.state (look l.work) l.index }
