use Rattle.std.proofs.Common.{sym, ◌∙◌}
use Rattle.cedar_text_syntax.proofs.Turns.{braces_closed}
use Rattle.cedar_text_syntax.proofs.machine.work.Work.close_clause.Goals as goal

pub returns-in-CloseBrace-clause-ok : goal.returns-in-CloseBrace-clause-ok
returns-in-CloseBrace-clause-ok c = braces_closed c.requires.reads (sym c.kind_at.ensures ∙ c.in-CloseBrace.is)
