use Rattle.cedar_text_syntax.proofs.Listed.{first_waits}
use Rattle.cedar_text_syntax.proofs.machine.work.Work.first.Goals as goal

pub operand-requires : goal.operand-requires
operand-requires c = record { within = c.requires.within; waits = first_waits c.requires.stands }
