use Rattle.cedar_heights.proofs.Bounds.{values_added}
use Rattle.cedar_heights.proofs.laws.values_add_their_height.Goals as goal

pub returns : goal.returns
returns g c = values_added _
