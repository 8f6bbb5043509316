use Rattle.cedar_ip.proofs.Covered.{in_range_to, in_range_from}
use Rattle.cedar_ip.proofs.laws.in_range_is_of_each_address.Goals as goal

pub returns : goal.returns
returns c = λ r s is other. (in_range_to r s is other, in_range_from r s is other)
