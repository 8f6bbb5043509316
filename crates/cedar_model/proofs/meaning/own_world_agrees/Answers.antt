use Rattle.cedar_model.proofs.OwnWorld.{own_request, own_store}
use Rattle.cedar_model.proofs.meaning.own_world_agrees.Goals as goal

pub returns : goal.returns
returns c = λ ans s sigma known. (own_request ans s sigma known, own_store ans s sigma known)
