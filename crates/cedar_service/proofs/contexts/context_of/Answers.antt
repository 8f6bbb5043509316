use Rattle.cedar_service.proofs.contexts.context_of.Goals as goal

pub returns-in-Some-clause-refused : goal.returns-in-Some-clause-refused
returns-in-Some-clause-refused g c = rw c.in-Some.is c.context_in.ensures.refused
