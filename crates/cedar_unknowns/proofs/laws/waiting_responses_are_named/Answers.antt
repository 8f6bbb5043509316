use Rattle.cedar_unknowns.proofs.NamingInstances.{waiting_listed, waiting_named}
use Rattle.cedar_unknowns.proofs.laws.waiting_responses_are_named.Goals as goal

pub returns-clause-listed : goal.returns-clause-listed
returns-clause-listed c = waiting_listed

pub returns-clause-named : goal.returns-clause-named
returns-clause-named c = waiting_named
