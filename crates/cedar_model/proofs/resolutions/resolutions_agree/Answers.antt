use Rattle.cedar_model.proofs.Agreeing
use Rattle.cedar_model.proofs.resolutions.resolutions_agree.Goals as goal

pub returns : goal.returns
returns g c = λ s r values. Agreeing.resolutions_agree s r values _
