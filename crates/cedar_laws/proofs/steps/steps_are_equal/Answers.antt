use Rattle.cedar_model.proofs.Configured.{setting_with}
use Rattle.cedar_laws.proofs.OneStep.{one_step, one_chain}
use Rattle.cedar_laws.proofs.steps.steps_are_equal.Goals as goal

pub returns-clause-step : goal.returns-clause-step
returns-clause-step g c =
    λ one mode resolution X levels m store old x y.
    one_step _ mode levels m one (setting_with X resolution) store old x y

pub returns-clause-chain : goal.returns-clause-chain
returns-clause-chain g c =
    λ one mode resolution X levels first steps x y.
    one_chain _ one mode (setting_with X resolution) levels steps first x y
