use Rattle.cedar_text_syntax.proofs.Listed.{value_waits}
use Rattle.cedar_text_syntax.proofs.machine.work.Work.value_in.Goals as goal

pub returns-in_ok-wait-in-Item-clause-ok : goal.returns-in_ok-wait-in-Item-clause-ok
returns-in_ok-wait-in-Item-clause-ok c =
    value_waits (rw c.in-Item.is at c.requires.awaits) c.requires.key c.requires.next c.requires.is
    c.in_ok-wait-in-Item.ensures.frames c.wait.ensures.trees
