use Rattle.cedar_text_syntax.proofs.Listed.{item_read}
use Rattle.cedar_text_syntax.proofs.machine.work.Work.close_frame.Goals as goal

pub close_item-requires-clause-item : goal.close_item-requires-clause-item
close_item-requires-clause-item c = item_read (rw c.in-Item.is at c.requires.reads)
