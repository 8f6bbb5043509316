-- Each is of a permit, which would apply.
use Rattle.cedar_explain.specs.Lacking.{IsLack}
use Rattle.cedar_explain.proofs.Listed.{none_yet, all_of_permits, all_apply}
use Rattle.cedar_explain.proofs.lacks.lacks_of.Goals as goal

pub policies-init : goal.policies-init
policies-init g c = none_yet (IsLack c.args.evaluator.now) c.new-lacks.result.items c.new-lacks.ensures.items

pub returns-clause-permits : goal.returns-clause-permits
returns-clause-permits g c = all_of_permits c.args.evaluator.now c.policies.lacks.items c.policies.invariant

pub returns-clause-applies : goal.returns-clause-applies
returns-clause-applies g c = all_apply c.args.evaluator.now c.policies.lacks.items c.policies.invariant
