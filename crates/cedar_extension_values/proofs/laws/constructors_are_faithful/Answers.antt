-- By the law of values that a text made.
use Rattle.cedar_extension_values.proofs.Computed.{constructors_compute, constructors_ask, constructors_faithful}
use Rattle.cedar_extension_values.proofs.laws.constructors_are_faithful.Goals as goal

pub returns-clause-computed : goal.returns-clause-computed
returns-clause-computed c = constructors_compute

pub returns-clause-nothing_asked : goal.returns-clause-nothing_asked
returns-clause-nothing_asked c = constructors_ask

pub returns-clause-faithful : goal.returns-clause-faithful
returns-clause-faithful c = constructors_faithful c.written_values_are_faithful.ensures.constructed
