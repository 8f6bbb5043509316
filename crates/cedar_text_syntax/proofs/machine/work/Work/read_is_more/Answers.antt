use Rattle.std.proofs.Common.{sym, ◌∙◌}
use Rattle.cedar_text_syntax.specs.Reading.{colons}
use Rattle.cedar_text_syntax.proofs.Members.{in_read}
use Rattle.cedar_text_syntax.proofs.machine.work.Work.read_is_more.Goals as goal

pub returns-in-Colons-clause-ok : goal.returns-in-Colons-clause-ok
returns-in-Colons-clause-ok c =
    (c.requires.stands.0, colons c.requires.stands.1 (sym c.kind_at.ensures ∙ c.in-Colons.is))

pub returns-in_ok-wait-in-In-clause-ok : goal.returns-in_ok-wait-in-In-clause-ok
returns-in_ok-wait-in-In-clause-ok c =
    in_read c.requires.stands.0 c.requires.stands.1 (sym c.kind_at.ensures ∙ c.in-In.is)
    c.in_ok-wait-in-In.ensures.frames c.wait.ensures.trees
