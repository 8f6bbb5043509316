use Rattle.cedar_laws.proofs.Faithfulness.{value_faithful, context_faithful, store_faithful, value_known}
use Rattle.cedar_laws.proofs.faithful.values_without_extensions_are_faithful.Goals as goal

pub returns-clause-values : goal.returns-clause-values
returns-clause-values g = value_faithful

pub returns-clause-contexts : goal.returns-clause-contexts
returns-clause-contexts g = context_faithful

pub returns-clause-stores : goal.returns-clause-stores
returns-clause-stores g = store_faithful

pub returns-clause-maps : goal.returns-clause-maps
returns-clause-maps g = λ X ans m sound none n v e. value_faithful X ans v (sound n v e) (none n v e)

pub returns-clause-known : goal.returns-clause-known
returns-clause-known g = value_known
