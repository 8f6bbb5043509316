use Rattle.cedar_model.proofs.Needs.{restricted_need}
use Rattle.cedar_model.proofs.depth.restricted_need_is_at_most_height.Goals as goal

pub returns : goal.returns
returns g c = λ answered s. restricted_need s _ answered
