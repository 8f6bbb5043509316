use Rattle.cedar_ip.proofs.SpecialAddresses.{loopback_to, loopback_from, multicast_to, multicast_from}
use Rattle.cedar_ip.proofs.laws.kinds_are_of_each_address.Goals as goal

pub returns-clause-loopback : goal.returns-clause-loopback
returns-clause-loopback c = λ r is. (loopback_to r is, loopback_from r is)

pub returns-clause-multicast : goal.returns-clause-multicast
returns-clause-multicast c = λ r is. (multicast_to r is, multicast_from r is)
