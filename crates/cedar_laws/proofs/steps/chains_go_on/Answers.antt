use Rattle.cedar_model.proofs.Configured.{setting_with}
use Rattle.cedar_laws.proofs.GoingOn.{one_step_more}
use Rattle.cedar_laws.proofs.steps.chains_go_on.Goals as goal

pub returns : goal.returns
returns g c =
    λ mode resolution X levels first last steps step x.
    one_step_more mode (setting_with X resolution) _ levels first last steps step x
