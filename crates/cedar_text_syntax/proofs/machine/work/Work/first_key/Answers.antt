use Rattle.cedar_text_syntax.proofs.Listed.{first_key_awaits}
use Rattle.cedar_text_syntax.proofs.machine.work.Work.first_key.Goals as goal

pub key-requires : goal.key-requires
key-requires c = record { within = c.requires.within; awaits = first_key_awaits c.requires.stands }
