use Rattle.std.proofs.Common.{sym, ◌∙◌}
use Rattle.cedar_text_syntax.proofs.Turns.{variable_read}
use Rattle.cedar_text_syntax.proofs.machine.work.Work.variable_part.Goals as goal

pub returns-in_ok-make-in-Some-clause-reads : goal.returns-in_ok-make-in-Some-clause-reads
returns-in_ok-make-in-Some-clause-reads c =
    variable_read c.requires.waits (sym c.leaf_at.ensures ∙ c.in-Some.is) c.requires.next c.start_at-start.ensures
    c.end_at-end.ensures c.in_ok-make-in-Some.ensures.look
