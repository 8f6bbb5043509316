use Rattle.std.proofs.Common.{arith, refl}
use Rattle.cedar_text_syntax.proofs.Listed.{item_count, comma_waits, comma_awaits}
use Rattle.cedar_text_syntax.proofs.machine.work.Work.comma.Goals as goal

pub overflow_add-count : goal.overflow_add-count
overflow_add-count c = omega (arith, item_count c.requires.item, c.ranges.index.fits)

pub returns-in-Record-clause-ok : goal.returns-in-Record-clause-ok
returns-in-Record-clause-ok c =
    comma_awaits (rw c.in-Record.is at c.requires.item) c.requires.is c.max-height.ensures
    (rw c.in-Record.is at c.in_ok-wait.ensures.frames) c.wait.ensures.trees

pub returns-in-Set-clause-ok : goal.returns-in-Set-clause-ok
returns-in-Set-clause-ok c =
    comma_waits refl (rw c.in-Set.is at c.requires.item) c.requires.is c.max-height.ensures
    (rw c.in-Set.is at c.in_ok-wait.ensures.frames) c.wait.ensures.trees

pub returns-in-Call-clause-ok : goal.returns-in-Call-clause-ok
returns-in-Call-clause-ok c =
    comma_waits refl (rw c.in-Call.is at c.requires.item) c.requires.is c.max-height.ensures
    (rw c.in-Call.is at c.in_ok-wait.ensures.frames) c.wait.ensures.trees

pub returns-in-Method-clause-ok : goal.returns-in-Method-clause-ok
returns-in-Method-clause-ok c =
    comma_waits refl (rw c.in-Method.is at c.requires.item) c.requires.is c.max-height.ensures
    (rw c.in-Method.is at c.in_ok-wait.ensures.frames) c.wait.ensures.trees
