use Rattle.std.proofs.Common.{◌<◌, arith}
use Rattle.cedar_values.specs.Members.{values_count}
use Rattle.cedar_values.proofs.SetSizes.{has_each-larger}
use Rattle.cedar_values.proofs.value.Set.is_subset.Goals as goal

pub returns-then-len : goal.returns-then-len
returns-then-len c =
    let larger : values_count c.args.other.now.all < values_count c.args.self.now.all = omega (arith, c.if-len.true, c.len.ensures, c.len-2.ensures) in
    has_each-larger c.args.self.now.all c.args.other.now.all c.args.self.now.in_order larger
