use Rattle.std.proofs.Common.{sym, refl, ◌∙◌}
use Rattle.cedar_text_syntax.proofs.Members.{path_one}
use Rattle.cedar_text_syntax.proofs.expecting.first_name.Goals as goal

pub returns-then-is_name_at-clause-ok : goal.returns-then-is_name_at-clause-ok
returns-then-is_name_at-clause-ok c =
    path_one (sym c.is_name_at.ensures.is ∙ c.if-is_name_at.true) refl c.end_at.ensures
