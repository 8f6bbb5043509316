use Rattle.std.proofs.Common.{◌+◌}
use Rattle.cedar_text_syntax.specs.Trees.{trees}
use Rattle.cedar_text_syntax.specs.PolicyReading.{PutsEntities}
use Rattle.cedar_text_syntax.proofs.written.Written.entities.Given as goal

abbrev pub invariant-loop-done : goal.invariant-loop-done
invariant-loop-done l =
    PutsEntities l.tokens l.index l.next (l.done + 1) (trees l.fn.self.steps.items) (trees l.self.steps.items)
