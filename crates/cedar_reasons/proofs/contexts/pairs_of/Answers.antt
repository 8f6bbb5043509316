use Rattle.cedar_reasons.proofs.KeptNames.{values_restricted}
use Rattle.cedar_reasons.proofs.contexts.pairs_of.Goals as goal

pub returns-in-Some-clause-restricted : goal.returns-in-Some-clause-restricted
returns-in-Some-clause-restricted c = values_restricted c.in-Some.values.now.entries
