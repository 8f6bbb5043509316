use Rattle.cedar_heights.proofs.Bounds.{entities_low}
use Rattle.cedar_heights.proofs.laws.entities_are_no_higher.Goals as goal

pub returns : goal.returns
returns c = entities_low
