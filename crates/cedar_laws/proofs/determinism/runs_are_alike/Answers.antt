use Rattle.cedar_laws.proofs.AlikeAnswers.{runs_alike}
use Rattle.cedar_laws.proofs.determinism.runs_are_alike.Goals as goal

pub returns : goal.returns
returns g c = λ functional mode s levels ps. runs_alike _ functional mode s levels ps
