use Rattle.cedar_text_syntax.proofs.Parts.{related_one}
use Rattle.std.proofs.Common.{sym, ◌∙◌}
use Rattle.cedar_text_syntax.proofs.Members.{like_read}
use Rattle.cedar_text_syntax.proofs.machine.work.Work.like.Goals as goal

pub returns-in_ok-make-in-Text-clause-ok : goal.returns-in_ok-make-in-Text-clause-ok
returns-in_ok-make-in-Text-clause-ok c =
    like_read c.requires.stands (sym c.kind_at.ensures ∙ c.in-Text.is) c.end_at-end.ensures
    c.in_ok-make-in-Text.ensures.look

pub make-requires : goal.make-requires
make-requires c = related_one c.requires.stands
