use Rattle.cedar_laws.proofs.LookedAt
use Rattle.cedar_laws.proofs.index.reached_policies_are_within_reach.Goals as goal

pub returns : goal.returns
returns c = LookedAt.reached_are_within_reach
