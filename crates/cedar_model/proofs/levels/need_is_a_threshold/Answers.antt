use Rattle.cedar_model.proofs.FewerLevels.{fewer_levels}
use Rattle.cedar_model.proofs.levels.need_is_a_threshold.Goals as goal

pub returns : goal.returns
returns g c = λ s. fewer_levels s _
