use Rattle.cedar_datetime.proofs.Days.{in_order}
use Rattle.cedar_datetime.proofs.laws.days_are_in_order.Goals as goal

pub returns : goal.returns
returns c = in_order
