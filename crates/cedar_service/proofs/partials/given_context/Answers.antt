use Rattle.std.proofs.Common.{refl}
use Rattle.cedar_service.proofs.partials.given_context.Goals as goal

pub returns-in-Ok-clause-said : goal.returns-in-Ok-clause-said
returns-in-Ok-clause-said g c = (c.in-Ok.context, c.in-Ok.ensures.said, refl)
