use Rattle.cedar_model.proofs.Needs.{need_bounded}
use Rattle.cedar_model.proofs.depth.need_is_bounded.Goals as goal

pub returns : goal.returns
returns g c = λ answered s. need_bounded s _ answered
