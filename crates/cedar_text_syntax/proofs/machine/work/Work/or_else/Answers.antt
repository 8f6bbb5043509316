use Rattle.std.proofs.Common.{sym, ◌∙◌}
use Rattle.cedar_text_syntax.proofs.Turns.{else_read}
use Rattle.cedar_text_syntax.proofs.machine.work.Work.or_else.Goals as goal

pub returns-in_ok-wait-in-Else-clause-ok : goal.returns-in_ok-wait-in-Else-clause-ok
returns-in_ok-wait-in-Else-clause-ok c =
    else_read c.requires.reads (sym c.kind_at.ensures ∙ c.in-Else.is) c.max.ensures
    c.in_ok-wait-in-Else.ensures.frames c.wait.ensures.trees
