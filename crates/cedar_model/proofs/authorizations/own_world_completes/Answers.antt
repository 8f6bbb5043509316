use Rattle.cedar_model.proofs.Exactly as exactly
use Rattle.cedar_model.proofs.authorizations.own_world_completes.Goals as goal

pub returns : goal.returns
returns c = exactly.own_world_completes
