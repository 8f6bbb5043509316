use Rattle.std.proofs.Common.{sym, ◌∙◌}
use Rattle.cedar_text_syntax.specs.Reading.{colons}
use Rattle.cedar_text_syntax.proofs.Listed.{call_opened}
use Rattle.cedar_text_syntax.proofs.machine.work.Work.name.Goals as goal

pub returns-in-Colons-clause-ok : goal.returns-in-Colons-clause-ok
returns-in-Colons-clause-ok c =
    (c.requires.stands.0, colons c.requires.stands.1 (sym c.kind_at.ensures ∙ c.in-Colons.is))

pub returns-in_ok-wait-in-OpenParen-clause-ok : goal.returns-in_ok-wait-in-OpenParen-clause-ok
returns-in_ok-wait-in-OpenParen-clause-ok c =
    call_opened c.requires.stands.0 c.requires.stands.1 (sym c.kind_at.ensures ∙ c.in-OpenParen.is)
    c.in_ok-wait-in-OpenParen.ensures.frames c.wait.ensures.trees
