use Rattle.cedar_decimal.proofs.Ordered.{keys_apart}
use Rattle.cedar_decimal.proofs.laws.keys_tell_numbers_apart.Goals as goal

pub returns : goal.returns
returns c = keys_apart
