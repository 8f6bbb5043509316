use Rattle.cedar_model.proofs.StepNeeds.{step_need_bounded}
use Rattle.cedar_model.proofs.depth.step_need_is_bounded.Goals as goal

pub returns : goal.returns
returns g c =
    λ answered s m b k mapped r f.
    step_need_bounded s _ m b k.is_within k.given_is_sound mapped k.is_no_higher answered r f
