use Rattle.cedar_text_syntax.proofs.Parts.{item_parts}
use Rattle.std.proofs.Common.{sym, ◌∙◌, arith}
use Rattle.cedar_text_syntax.proofs.Listed.{item_count, list_closed}
use Rattle.cedar_text_syntax.proofs.machine.work.Work.close_list.Goals as goal

pub overflow_add-what : goal.overflow_add-what
overflow_add-what c = omega (arith, item_count c.requires.item, c.ranges.index.fits)

pub returns-in_ok-make-clause-ok : goal.returns-in_ok-make-clause-ok
returns-in_ok-make-clause-ok c =
    list_closed c.requires.item (sym c.closes_at.ensures ∙ c.if-closes_at.true) c.end_at-end.ensures
    c.max-below.ensures c.in_ok-make.ensures.look

pub make-requires : goal.make-requires
make-requires c = item_parts c.requires.item
