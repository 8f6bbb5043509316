use Rattle.cedar_decimal.proofs.Ordered.{keys_ordered}
use Rattle.cedar_decimal.proofs.laws.keys_are_in_the_order_of_numbers.Goals as goal

pub returns : goal.returns
returns c = keys_ordered
