use Rattle.cedar_names.proofs.Injective.{entity_text-injective}
use Rattle.cedar_names.proofs.texts.laws.entities_that_print_alike_are_one.Goals as goal

pub returns : goal.returns
returns c = entity_text-injective
