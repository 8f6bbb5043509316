use Rattle.std.proofs.Common.{arith}
use Rattle.cedar_text_syntax.proofs.Listed.{field_at_below, field_read}
use Rattle.cedar_text_syntax.proofs.machine.work.Work.close_field.Goals as goal

pub start_at-key_start-requires : goal.start_at-key_start-requires
start_at-key_start-requires c = omega (arith, field_at_below c.requires.reads, c.requires.within)

pub close_item-requires-clause-item : goal.close_item-requires-clause-item
close_item-requires-clause-item c = field_read c.requires.reads c.start_at-key_start.ensures c.in_ok-make.ensures.look
