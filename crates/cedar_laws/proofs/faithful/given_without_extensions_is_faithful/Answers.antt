use Rattle.cedar_laws.proofs.Faithfulness.{given_faithful}
use Rattle.cedar_laws.proofs.faithful.given_without_extensions_is_faithful.Goals as goal

pub returns : goal.returns
returns g c = given_faithful _
