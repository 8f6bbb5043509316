use Rattle.std.proofs.Common.{sym, ◌∙◌}
use Rattle.cedar_text_syntax.proofs.Members.{path_more}
use Rattle.cedar_text_syntax.proofs.machine.work.Work.path_identifier.Goals as goal

pub returns-then-is_name_at-clause-ok : goal.returns-then-is_name_at-clause-ok
returns-then-is_name_at-clause-ok c = (
  c.requires.stands.0,
  path_more c.requires.stands.1 (sym c.is_name_at.ensures.is ∙ c.if-is_name_at.true) c.end_at.ensures,
)
