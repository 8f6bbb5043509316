use Rattle.cedar_model.proofs.Conjunction.{has_is_conjunction}
use Rattle.cedar_model.proofs.meaning.extended_has_is_a_conjunction.Goals as goal

pub returns : goal.returns
returns c = has_is_conjunction
