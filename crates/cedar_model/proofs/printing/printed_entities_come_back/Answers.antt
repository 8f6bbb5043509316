use Rattle.cedar_model.proofs.Printed.{come_back, injective}
use Rattle.cedar_model.proofs.printing.printed_entities_come_back.Goals as goal

pub returns-clause-back : goal.returns-clause-back
returns-clause-back g = come_back

pub returns-clause-injective : goal.returns-clause-injective
returns-clause-injective g = injective
