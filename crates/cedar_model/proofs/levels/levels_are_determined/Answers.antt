use Rattle.cedar_model.proofs.Determined.{limit_alone, allowed_alike, more_than_limit}
use Rattle.cedar_model.proofs.levels.levels_are_determined.Goals as goal

pub returns-clause-limit : goal.returns-clause-limit
returns-clause-limit g c = λ s. limit_alone s _

pub returns-clause-alike : goal.returns-clause-alike
returns-clause-alike g c = λ s. allowed_alike s _

pub returns-clause-need : goal.returns-clause-need
returns-clause-need g c = λ s. more_than_limit s _
