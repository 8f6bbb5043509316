use Rattle.std.proofs.Common.{arith, ◌<◌}
use Rattle.cedar_text_syntax.specs.Levels.{level_of, awaited}
use Rattle.cedar_text_syntax.proofs.Turns.{infix_read}
use Rattle.cedar_text_syntax.proofs.machine.work.Work.infix.Goals as goal

pub returns-clause-ok : goal.returns-clause-ok
returns-clause-ok c =
    let below : level_of c.args.operator < awaited c.reduce.new.self.frames =
    omega (arith, c.if-level-awaited.false, c.level.ensures, c.awaited.ensures) in
    infix_read c.in_ok-reduce.ensures.reads (rw c.left_level-2.ensures at c.in_ok-reduce.ensures.low) c.requires.is
    below c.in_ok-wait.ensures.frames c.wait.ensures.trees
