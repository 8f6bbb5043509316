use Rattle.std.proofs.Common.{sym, ◌∙◌}
use Rattle.cedar_text_syntax.proofs.Members.{path_one}
use Rattle.cedar_text_syntax.proofs.machine.work.Work.is.Goals as goal

pub returns-then-is_name_at-clause-ok : goal.returns-then-is_name_at-clause-ok
returns-then-is_name_at-clause-ok c = (
  c.requires.stands,
  path_one (sym c.is_name_at.ensures.is ∙ c.if-is_name_at.true)
      c.start_at-start.ensures c.end_at-end.ensures,
)
