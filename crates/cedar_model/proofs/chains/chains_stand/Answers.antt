use Rattle.cedar_model.specs.Chains.{at_step, no_values}
use Rattle.cedar_model.proofs.Chaining.{headline}
use Rattle.cedar_model.proofs.chains.chains_stand.Goals as goal

pub returns : goal.returns
returns g c = λ mode resolution X levels request store ps steps.
    headline mode _ (at_step X resolution request store no_values) levels ps steps
