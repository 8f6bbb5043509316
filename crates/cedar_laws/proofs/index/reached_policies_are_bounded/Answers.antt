use Rattle.cedar_laws.proofs.LookedAt
use Rattle.cedar_laws.proofs.index.reached_policies_are_bounded.Goals as goal

pub returns : goal.returns
returns c = LookedAt.reached_are_bounded
