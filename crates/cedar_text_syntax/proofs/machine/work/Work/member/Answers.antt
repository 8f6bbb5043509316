use Rattle.std.proofs.Common.{sym, ◌∙◌}
use Rattle.cedar_text_syntax.proofs.Listed.{method_opened}
use Rattle.cedar_text_syntax.proofs.machine.work.Work.member.Goals as goal

pub returns-in_ok-wait-in-OpenParen-clause-ok : goal.returns-in_ok-wait-in-OpenParen-clause-ok
returns-in_ok-wait-in-OpenParen-clause-ok c =
    method_opened c.requires.stands.0 c.requires.stands.1 c.requires.stands.2 c.requires.stands.3
    (sym c.kind_at.ensures ∙ c.in-OpenParen.is) c.in_ok-wait-in-OpenParen.ensures.frames c.wait.ensures.trees
