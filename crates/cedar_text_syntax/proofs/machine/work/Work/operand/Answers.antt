use Rattle.std.proofs.Common.{sym, ◌∙◌}
use Rattle.cedar_text_syntax.proofs.Turns.{paren_opened}
use Rattle.cedar_text_syntax.proofs.Listed.{set_opened, record_opened}
use Rattle.cedar_text_syntax.proofs.machine.work.Work.operand.Goals as goal

pub returns-in_ok-wait-in-OpenParen-clause-ok : goal.returns-in_ok-wait-in-OpenParen-clause-ok
returns-in_ok-wait-in-OpenParen-clause-ok c =
    paren_opened c.requires.waits (sym c.kind_at.ensures ∙ c.in-OpenParen.is) c.start_at.ensures
    c.in_ok-wait-in-OpenParen.ensures.frames c.wait.ensures.trees

pub returns-in_ok-wait-in-OpenBracket-clause-ok : goal.returns-in_ok-wait-in-OpenBracket-clause-ok
returns-in_ok-wait-in-OpenBracket-clause-ok c =
    set_opened c.requires.waits (sym c.kind_at.ensures ∙ c.in-OpenBracket.is) c.start_at-in-OpenBracket.ensures
    c.in_ok-wait-in-OpenBracket.ensures.frames c.wait-in-OpenBracket.ensures.trees

pub returns-in_ok-wait-in-OpenBrace-clause-ok : goal.returns-in_ok-wait-in-OpenBrace-clause-ok
returns-in_ok-wait-in-OpenBrace-clause-ok c =
    record_opened c.requires.waits (sym c.kind_at.ensures ∙ c.in-OpenBrace.is) c.start_at-in-OpenBrace.ensures
    c.in_ok-wait-in-OpenBrace.ensures.frames c.wait-in-OpenBrace.ensures.trees
