use Rattle.cedar_model.proofs.Reached.{reached}
use Rattle.cedar_model.proofs.levels.expressions_have_answers.Goals as goal

pub returns : goal.returns
returns g c = λ s. reached s _
