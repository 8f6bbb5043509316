use Rattle.cedar_text_syntax.proofs.Parts.{behind_one}
use Rattle.std.proofs.Common.{sym, ◌∙◌}
use Rattle.cedar_text_syntax.proofs.Members.{index_read}
use Rattle.cedar_text_syntax.proofs.machine.work.Work.index_end.Goals as goal

pub returns-in_ok-make-in-CloseBracket-clause-ok : goal.returns-in_ok-make-in-CloseBracket-clause-ok
returns-in_ok-make-in-CloseBracket-clause-ok c =
    index_read c.requires.stands.0 c.requires.stands.1 c.requires.stands.2 c.requires.stands.3
    (sym c.kind_at.ensures ∙ c.in-CloseBracket.is) c.end_at-end.ensures c.in_ok-make-in-CloseBracket.ensures.look

pub make-requires : goal.make-requires
make-requires c = behind_one c.requires.stands.0
