use Rattle.std.proofs.Common.{refl}
use Rattle.cedar_staged.proofs.resumed.Resumed.take.Goals as goal

pub returns-clause-unchanged : goal.returns-clause-unchanged
returns-clause-unchanged g c = (refl, refl, refl, refl)

pub returns-in-Ok-clause-unchanged : goal.returns-in-Ok-clause-unchanged
returns-in-Ok-clause-unchanged g c = c.take_shared.ensures.unchanged
