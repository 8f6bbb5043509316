use Rattle.cedar_authorizer.specs.Configured.{configuration}
use Rattle.cedar_plan.proofs.Requested.{of_requests, of_steps, answered}
use Rattle.cedar_plan.proofs.laws.decisions_are_of_requests.Goals as goal

pub returns-clause-requests : goal.returns-clause-requests
returns-clause-requests g c = of_requests (configuration c.args.authorizer.now)

pub returns-clause-steps : goal.returns-clause-steps
returns-clause-steps g c = of_steps (configuration c.args.authorizer.now)

pub returns-clause-answered : goal.returns-clause-answered
returns-clause-answered g c = answered (configuration c.args.authorizer.now)
