use Rattle.cedar_layers.specs.Stores.{entity_name, entity_view}
use Rattle.cedar_plan.proofs.Answering.{decides}
use Rattle.cedar_plan.proofs.Undecided.{is_open}
use Rattle.cedar_plan.proofs.plans.Plan.allows.Goals as goal

pub returns-clause-decision : goal.returns-clause-decision
returns-clause-decision c =
    decides c.args.self.now (entity_name c.args.entity.now) (entity_view c.args.entity.now) c.told.result c.told.ensures

pub returns-clause-undecided : goal.returns-clause-undecided
returns-clause-undecided c =
    is_open c.args.self.now (entity_name c.args.entity.now) (entity_view c.args.entity.now) c.told.result c.told.ensures
