use Rattle.cedar_extensions.proofs.Agreeing.{asks_computed}
use Rattle.cedar_extensions.proofs.function.ExtensionFunction.unknown.Goals as goal

pub returns-clause-computes : goal.returns-clause-computes
returns-clause-computes g c = asks_computed
