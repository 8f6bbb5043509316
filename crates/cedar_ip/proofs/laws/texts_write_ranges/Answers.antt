use Rattle.cedar_ip.proofs.Written.{range_is}
use Rattle.cedar_ip.proofs.laws.texts_write_ranges.Goals as goal

pub returns : goal.returns
returns c = range_is
