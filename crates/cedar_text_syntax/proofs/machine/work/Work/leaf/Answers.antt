use Rattle.std.proofs.Common.{sym, ◌∙◌}
use Rattle.cedar_text_syntax.proofs.Turns.{leaf_read}
use Rattle.cedar_text_syntax.proofs.machine.work.Work.leaf.Goals as goal

pub returns-in_ok-make-in-Some-clause-ok : goal.returns-in_ok-make-in-Some-clause-ok
returns-in_ok-make-in-Some-clause-ok c =
    leaf_read c.requires.waits (sym c.leaf_at.ensures ∙ c.in-Some.is) c.start_at-start.ensures c.end_at-end.ensures
    c.in_ok-make-in-Some.ensures.look
