use Rattle.cedar_plan.proofs.Known as known
use Rattle.cedar_plan.proofs.plans.Plan.given.Goals as goal

pub returns : goal.returns
returns c =
    known.given c.args.self.now _ _ _ _ _ c.is_satisfied-true_permit.ensures c.is_residual-residual_permit.ensures
    c.is_satisfied-true_forbid.ensures c.is_residual-residual_forbid.ensures c.decide.ensures
