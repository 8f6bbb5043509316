use Rattle.cedar_datetime.proofs.InOrder.{in_order}
use Rattle.cedar_datetime.proofs.laws.keys_are_in_order.Goals as goal

pub returns : goal.returns
returns c = in_order
