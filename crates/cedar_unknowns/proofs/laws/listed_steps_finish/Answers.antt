use Rattle.cedar_authorizer.specs.Configured.{configuration}
use Rattle.cedar_authorizer.specs.Steps.{response_said, step_by}
use Rattle.cedar_unknowns.proofs.Finishing.{finishes_by_lists, finishes_without_functions}
use Rattle.cedar_unknowns.proofs.laws.listed_steps_finish.Goals as goal

pub returns-clause-lists : goal.returns-clause-lists
returns-clause-lists g c = λ finishes.
    finishes_by_lists (configuration c.args.authorizer.now) (step_by c.args.map.now c.args.entities.now)
    (response_said c.args.before.now) c.args.after.now finishes

pub returns-clause-without_functions : goal.returns-clause-without_functions
returns-clause-without_functions g c = λ finishes.
    finishes_without_functions (configuration c.args.authorizer.now) (step_by c.args.map.now c.args.entities.now)
    (response_said c.args.before.now) c.args.after.now finishes
