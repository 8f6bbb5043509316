use Rattle.cedar_model.proofs.Configured.{setting_with}
use Rattle.cedar_laws.proofs.OneStep.{alike_steps}
use Rattle.cedar_laws.proofs.steps.steps_are_alike.Goals as goal

pub returns : goal.returns
returns g c =
    λ functional mode resolution X levels m store old x y.
    alike_steps _ mode levels m functional (setting_with X resolution) store old x y
