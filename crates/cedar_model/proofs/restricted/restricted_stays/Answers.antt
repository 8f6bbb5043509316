use Rattle.cedar_model.proofs.RestrictedAnswers.{stays_restricted}
use Rattle.cedar_model.proofs.restricted.restricted_stays.Goals as goal

pub returns : goal.returns
returns g c = λ s. stays_restricted s _
