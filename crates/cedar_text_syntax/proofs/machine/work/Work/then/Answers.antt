use Rattle.std.proofs.Common.{sym, ◌∙◌}
use Rattle.cedar_text_syntax.proofs.Turns.{then_read}
use Rattle.cedar_text_syntax.proofs.machine.work.Work.then.Goals as goal

pub returns-in_ok-wait-in-Then-clause-ok : goal.returns-in_ok-wait-in-Then-clause-ok
returns-in_ok-wait-in-Then-clause-ok c =
    then_read c.requires.reads (sym c.kind_at.ensures ∙ c.in-Then.is) c.in_ok-wait-in-Then.ensures.frames
    c.wait.ensures.trees
