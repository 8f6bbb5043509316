use Rattle.cedar_text_syntax.proofs.Parts.{related_one}
use Rattle.cedar_text_syntax.proofs.Members.{has_read}
use Rattle.cedar_text_syntax.proofs.machine.work.Work.read_has_attributes.Goals as goal

pub operator-requires-clause-reads : goal.operator-requires-clause-reads
operator-requires-clause-reads c = has_read c.requires.stands.0 c.requires.stands.1 c.in_ok-make.ensures.look

pub make-requires : goal.make-requires
make-requires c = related_one c.requires.stands.0
