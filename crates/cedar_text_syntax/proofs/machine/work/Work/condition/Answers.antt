use Rattle.std.proofs.Common.{arith, ◌<◌}
use Rattle.cedar_text_syntax.specs.Levels.{awaited}
use Rattle.cedar_text_syntax.proofs.Turns.{if_read}
use Rattle.cedar_text_syntax.proofs.machine.work.Work.condition.Goals as goal

pub returns-clause-ok : goal.returns-clause-ok
returns-clause-ok c =
    let below : 8 < awaited c.args.self.now.frames =
    omega (arith, c.awaited.ensures, c.if-awaited-le-CONDITIONAL.false) in
    if_read c.requires.waits below c.requires.is c.start_at.ensures c.in_ok-wait.ensures.frames c.wait.ensures.trees
