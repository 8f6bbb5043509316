use Rattle.std.proofs.Common.{◌∙◌, sym, arith}
use Rattle.cedar_values.proofs.Order.{size-Record, listed_cmp-sets, listed_cmp-longer, listed_cmp-shorter}
use Rattle.cedar_values.proofs.value.order.+order.Goals as goal

pub compare_kinds-compare_entries-requires : goal.compare_kinds-compare_entries-requires
compare_kinds-compare_entries-requires t c =
    (rw c.deref.ensures (omega (arith, size-Record _ _ c.in-Record.is)), tt)

pub compare_sets-returns : goal.compare_sets-returns
compare_sets-returns t c =
    c.compare_elements.ensures ∙ rw (c.as_slice.ensures.value, c.as_slice-2.ensures.value, c.deref.ensures, c.deref-2.ensures) (listed_cmp-sets _ _ c.args.a.now c.args.b.now c.a.view_is c.a.invariant c.b.view_is c.b.invariant)

pub compare_elements-returns-then-i-b : goal.compare_elements-returns-then-i-b
compare_elements-returns-then-i-b t c =
    sym (listed_cmp-longer c.args.a.now c.args.b.now c.elements.i (omega arith) (omega arith)) ∙ c.elements.invariant.1

pub compare_elements-returns-else-a-b : goal.compare_elements-returns-else-a-b
compare_elements-returns-else-a-b t c =
    sym (listed_cmp-shorter c.args.a.now c.args.b.now c.elements.i (omega arith) (omega arith)) ∙ c.elements.invariant.1
