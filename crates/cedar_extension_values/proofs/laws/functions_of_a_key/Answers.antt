-- By whether the first argument has a key.
use Rattle.cedar_extension_values.proofs.Computed.{of_key_computes, of_key_asks, of_key_faithful}
use Rattle.cedar_extension_values.proofs.laws.functions_of_a_key.Goals as goal

pub returns-clause-computed : goal.returns-clause-computed
returns-clause-computed c = of_key_computes

pub returns-clause-nothing_asked : goal.returns-clause-nothing_asked
returns-clause-nothing_asked c = of_key_asks

pub returns-clause-faithful : goal.returns-clause-faithful
returns-clause-faithful c = of_key_faithful
