use Rattle.cedar_laws.proofs.LookedAt
use Rattle.cedar_laws.proofs.index.policies_within_reach_are_fewer.Goals as goal

pub returns : goal.returns
returns c = LookedAt.within_reach_are_fewer
