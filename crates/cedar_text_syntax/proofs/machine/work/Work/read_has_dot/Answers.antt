use Rattle.std.proofs.Common.{sym, ◌∙◌}
use Rattle.cedar_text_syntax.proofs.Members.{dotted_more}
use Rattle.cedar_text_syntax.proofs.machine.work.Work.read_has_dot.Goals as goal

pub returns-then-is_identifier_at-clause-ok : goal.returns-then-is_identifier_at-clause-ok
returns-then-is_identifier_at-clause-ok c = (
  c.requires.stands.0,
  dotted_more c.requires.stands.1 (sym c.is_identifier_at.ensures.is ∙ c.if-is_identifier_at.true) c.end_at.ensures,
)
