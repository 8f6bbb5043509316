use Rattle.cedar_laws.proofs.LookedAt
use Rattle.cedar_laws.proofs.index.policies_looked_at_are_bounded.Goals as goal

pub returns : goal.returns
returns c = LookedAt.looked_at_are_bounded
