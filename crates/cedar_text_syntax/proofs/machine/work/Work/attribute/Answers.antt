use Rattle.cedar_text_syntax.proofs.Parts.{behind_one}
use Rattle.cedar_text_syntax.proofs.Members.{attribute_read}
use Rattle.cedar_text_syntax.proofs.machine.work.Work.attribute.Goals as goal

pub operator-requires-clause-reads : goal.operator-requires-clause-reads
operator-requires-clause-reads c =
    attribute_read c.requires.stands.0 c.requires.stands.1 c.requires.stands.2 c.requires.stands.3
    c.end_at-end.ensures c.in_ok-make.ensures.look

pub make-requires : goal.make-requires
make-requires c = behind_one c.requires.stands.0
