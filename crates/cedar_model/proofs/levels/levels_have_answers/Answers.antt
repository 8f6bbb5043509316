use Rattle.cedar_model.proofs.Total.{total}
use Rattle.cedar_model.proofs.levels.levels_have_answers.Goals as goal

pub returns : goal.returns
returns g c = λ s. total s _
