use Rattle.cedar_plan.proofs.Known.{of_each, always}
use Rattle.cedar_plan.proofs.plans.Plan.known.Goals as goal

pub returns-clause-told : goal.returns-clause-told
returns-clause-told c = of_each c.args.self.now c.given.result c.given.ensures

pub returns-clause-decision : goal.returns-clause-decision
returns-clause-decision c = always c.args.self.now c.given.result c.given.ensures
