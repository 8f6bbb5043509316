use Rattle.std.proofs.Common.{Some, ap, sym, ◌∙◌}
use Rattle.cedar_operators.proofs.Orders.{by_keys, of_two_types, left_type_expected}
use Rattle.cedar_operators.proofs.order.order_of_others.Goals as goal

pub returns-then-eq-clause-ok : goal.returns-then-eq-clause-ok
returns-then-eq-clause-ok g c =
    by_keys _ _ _ _ _ _ _ c.requires.left c.in-Some.ensures c.in-Some-overloaded_in.ensures (sym c.eq.ensures ∙ c.if-eq.true)
    ∙ ap Some (sym (rw (c.as_slice.ensures.value, c.as_slice-then-eq.ensures.value) at c.cmp.ensures))

pub returns-else-eq-clause-no_order : goal.returns-else-eq-clause-no_order
returns-else-eq-clause-no_order g c =
    λ ok. of_two_types _ _ _ _ _ _ _ c.requires.left c.in-Some.ensures c.in-Some-overloaded_in.ensures (sym c.eq.ensures ∙ c.if-eq.false)

pub returns-else-eq-clause-error : goal.returns-else-eq-clause-error
returns-else-eq-clause-error g c =
    λ ok. c.extension_expected.ensures ok ∙ sym (left_type_expected _ _ _ _ _ c.requires.left c.requires.right c.in-Some.ensures)
