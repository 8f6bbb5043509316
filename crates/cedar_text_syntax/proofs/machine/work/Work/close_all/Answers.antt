use Rattle.std.proofs.Common.{sym, ◌∙◌}
use Rattle.cedar_text_syntax.proofs.Turns.{end_read}
use Rattle.cedar_text_syntax.proofs.machine.work.Work.close_all.Goals as goal

pub returns-in-End-clause-ok : goal.returns-in-End-clause-ok
returns-in-End-clause-ok c = end_read c.requires.reads (sym c.kind_at.ensures ∙ c.in-End.is)
