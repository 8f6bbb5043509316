use Rattle.cedar_extensions.specs.StoredLaws.{outcome_model}
use Rattle.cedar_extensions.proofs.laws.outcomes_are_those_of_the_model.Goals as goal

pub returns : goal.returns
returns c = outcome_model
