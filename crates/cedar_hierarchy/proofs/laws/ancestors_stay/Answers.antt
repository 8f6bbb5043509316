use Rattle.cedar_hierarchy.proofs.Growing.{leads_as_before, leads_still}
use Rattle.cedar_hierarchy.proofs.laws.ancestors_stay.Goals as goal

pub returns : goal.returns
returns c = λ these larger same n m r. (leads_as_before these larger same n m r, leads_still these larger same n m r)
