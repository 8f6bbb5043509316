use Rattle.std.proofs.Common.{arith}
use Rattle.cedar_heights.proofs.Smaller.{element_smaller}
use Rattle.cedar_heights.proofs.values.+height.Goals as goal

pub highest_value-value_height-requires : goal.highest_value-value_height-requires
highest_value-value_height-requires t c = (
  omega (
    arith,
    element_smaller c.args.values.now c.values.value-index c.value-item.result c.values-test.true c.value-item.is,
  ),
  tt,
)
