use Rattle.cedar_model.proofs.RestrictedAnswers.{reads_nothing}
use Rattle.cedar_model.proofs.restricted.restricted_reads_nothing.Goals as goal

pub returns : goal.returns
returns g c = λ s z. reads_nothing s z _
