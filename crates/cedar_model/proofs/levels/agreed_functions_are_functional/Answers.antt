use Rattle.cedar_model.proofs.Functional.{functional}
use Rattle.cedar_model.proofs.levels.agreed_functions_are_functional.Goals as goal

pub returns : goal.returns
returns g c = λ ans agree. functional ans _ agree
