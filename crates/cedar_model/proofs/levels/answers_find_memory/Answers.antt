use Rattle.cedar_model.proofs.Wanting.{find_memory}
use Rattle.cedar_model.proofs.levels.answers_find_memory.Goals as goal

pub returns : goal.returns
returns g c = λ finding s n t a r. find_memory s _ finding n t a r
