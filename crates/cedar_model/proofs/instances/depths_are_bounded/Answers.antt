use Rattle.cedar_model.proofs.Instanced.{projected_four, loop_needs_more, context_grows}
use Rattle.cedar_model.proofs.instances.depths_are_bounded.Goals as goal

pub returns-clause-projected : goal.returns-clause-projected
returns-clause-projected g = projected_four

pub returns-clause-looped : goal.returns-clause-looped
returns-clause-looped g = loop_needs_more

pub returns-clause-grown : goal.returns-clause-grown
returns-clause-grown g = context_grows
