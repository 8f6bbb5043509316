use Rattle.cedar_extensions.proofs.Agreeing.{standard_faithful}
use Rattle.cedar_extensions.proofs.laws.standard_functions_are_faithful.Goals as goal

pub returns : goal.returns
returns g c = standard_faithful c.args.extensions.now c.functions_are_faithful.ensures
