use Rattle.std.proofs.Common.{sym, ◌∙◌}
use Rattle.cedar_text_syntax.specs.Reading.{dot}
use Rattle.cedar_text_syntax.proofs.machine.work.Work.read_has_more.Goals as goal

pub returns-in-Dot-clause-ok : goal.returns-in-Dot-clause-ok
returns-in-Dot-clause-ok c = (c.requires.stands.0, dot c.requires.stands.1 (sym c.kind_at.ensures ∙ c.in-Dot.is))
