use Rattle.std.proofs.Common.{arith}
use Rattle.std.proofs.lemmas.Int.Digits.{digits_value_more}
use Rattle.cedar_text_lexer.proofs.Bounds.{hex_room, hex_next}
use Rattle.cedar_text_lexer.proofs.escaping.hex_value.Goals as goal

pub overflow_mul-value : goal.overflow_mul-value
overflow_mul-value c = omega (arith, hex_room c.loop-i.value c.loop-i.i c.loop-i.invariant.2 (omega (arith, c.loop-i.invariant.1)))

pub overflow_add-value : goal.overflow_add-value
overflow_add-value c = omega (arith, c.digit.ensures.small, hex_room c.loop-i.value c.loop-i.i c.loop-i.invariant.2 (omega (arith, c.loop-i.invariant.1)))

pub loop-i-preserved : goal.loop-i-preserved
loop-i-preserved c =
    (grind (arith, digits_value_more), c.loop-i.invariant.1, hex_next c.loop-i.value c.loop-i.i c.digit.result c.loop-i.invariant.2 c.digit.ensures.small)
