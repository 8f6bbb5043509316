use Rattle.cedar_model.proofs.Configured.{setting_with}
use Rattle.cedar_model.proofs.Refusing.{steps_alike}
use Rattle.cedar_model.proofs.chains.refusal_is_one.Goals as goal

pub returns : goal.returns
returns g c = λ functional mode resolution X. steps_alike _ functional mode (setting_with X resolution)
