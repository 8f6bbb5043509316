use Rattle.cedar_laws.proofs.HoldingInstances.{listing_holds_none, functions_hold_none, listed_is_answered}
use Rattle.cedar_laws.proofs.faithful.records_hold_no_extensions.Goals as goal

pub returns-clause-given : goal.returns-clause-given
returns-clause-given g = listing_holds_none

pub returns-clause-functions : goal.returns-clause-functions
returns-clause-functions g = functions_hold_none

pub returns-clause-answered : goal.returns-clause-answered
returns-clause-answered g = listed_is_answered
