use Rattle.cedar_service.proofs.partials.context_if_given.Goals as goal

pub returns-in-Some-clause-refused : goal.returns-in-Some-clause-refused
returns-in-Some-clause-refused g c = rw c.in-Some.is c.given_context.ensures.refused
