use Rattle.std.proofs.Common.{sym, ◌∙◌}
use Rattle.cedar_text_syntax.proofs.Members.{entity_read}
use Rattle.cedar_text_syntax.proofs.machine.work.Work.path.Goals as goal

pub returns-in_ok-make-in-Text-clause-ok : goal.returns-in_ok-make-in-Text-clause-ok
returns-in_ok-make-in-Text-clause-ok c =
    entity_read c.requires.stands.0 c.requires.stands.1 (sym c.kind_at.ensures ∙ c.in-Text.is) c.end_at.ensures
    c.in_ok-make-in-Text.ensures.look
