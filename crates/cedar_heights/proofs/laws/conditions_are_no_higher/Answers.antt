use Rattle.cedar_heights.proofs.Bounds.{conditions_low, carried_low}
use Rattle.cedar_heights.proofs.laws.conditions_are_no_higher.Goals as goal

pub returns-clause-conditions : goal.returns-clause-conditions
returns-clause-conditions c = conditions_low

pub returns-clause-carried : goal.returns-clause-carried
returns-clause-carried c = carried_low
