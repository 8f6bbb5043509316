-- By whether the first argument has a key, and then the second.
use Rattle.cedar_extension_values.proofs.Computed.{of_keys_compute, of_keys_ask, of_keys_faithful}
use Rattle.cedar_extension_values.proofs.laws.functions_of_two_keys.Goals as goal

pub returns-clause-computed : goal.returns-clause-computed
returns-clause-computed c = of_keys_compute

pub returns-clause-nothing_asked : goal.returns-clause-nothing_asked
returns-clause-nothing_asked c = of_keys_ask

pub returns-clause-faithful : goal.returns-clause-faithful
returns-clause-faithful c = of_keys_faithful
