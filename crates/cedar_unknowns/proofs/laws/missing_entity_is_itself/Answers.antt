use Rattle.cedar_unknowns.proofs.Valued.{missing_is_itself}
use Rattle.cedar_unknowns.proofs.laws.missing_entity_is_itself.Goals as goal

pub returns : goal.returns
returns c = missing_is_itself
