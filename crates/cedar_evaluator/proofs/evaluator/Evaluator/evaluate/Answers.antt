use Rattle.cedar_layers.specs.Policies.{condition_term, policy_view}
use Rattle.cedar_evaluator.specs.Decisions.{decision_of, partly_decided}
use Rattle.cedar_evaluator.specs.Evaluations.{setting_of, calls_in, limit_of}
use Rattle.cedar_evaluator.proofs.Knowing.{wholly_promised, known_decision}
use Rattle.cedar_evaluator.proofs.evaluator.Evaluator.evaluate.Goals as goal

pub returns-clause-decides : goal.returns-clause-decides
returns-clause-decides g c =
    wholly_promised (setting_of c.args.self.now (policy_view c.args.policy.now).slots) (calls_in c.args.self.now) (limit_of c.args.self.now) (condition_term (policy_view c.args.policy.now))
    (partly_decided c.partial_evaluate.result) (decision_of c.wholly_decided.result) c.partial_evaluate.ensures.decides c.wholly_decided.ensures

pub returns-clause-known : goal.returns-clause-known
returns-clause-known g c =
    let s = setting_of c.args.self.now (policy_view c.args.policy.now).slots in
    let t = condition_term (policy_view c.args.policy.now) in
    known_decision s (calls_in c.args.self.now) (limit_of c.args.self.now) t (decision_of c.wholly_decided.result)
    (wholly_promised s (calls_in c.args.self.now) (limit_of c.args.self.now) t (partly_decided c.partial_evaluate.result) (decision_of c.wholly_decided.result) c.partial_evaluate.ensures.decides c.wholly_decided.ensures)
