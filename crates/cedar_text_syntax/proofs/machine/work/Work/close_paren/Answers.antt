use Rattle.std.proofs.Common.{sym, ◌∙◌, refl}
use Rattle.cedar_text_syntax.proofs.Turns.{paren_closed}
use Rattle.cedar_text_syntax.proofs.machine.work.Work.close_paren.Goals as goal

pub returns-in-CloseParen-clause-ok : goal.returns-in-CloseParen-clause-ok
returns-in-CloseParen-clause-ok c =
    paren_closed c.requires.reads (sym c.kind_at.ensures ∙ c.in-CloseParen.is) c.end_at-self.ensures refl
