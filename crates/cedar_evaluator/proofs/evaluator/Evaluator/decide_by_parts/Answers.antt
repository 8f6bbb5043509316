use Rattle.cedar_layers.specs.Policies.{policy_view, policy_location, condition_term}
use Rattle.cedar_errors.specs.Answers.{partial_answer}
use Rattle.cedar_evaluator.specs.Decisions.{partly_decided}
use Rattle.cedar_evaluator.specs.Evaluations.{setting_of, calls_in, limit_of}
use Rattle.cedar_evaluator.proofs.Knowing.{partly_promised}
use Rattle.cedar_evaluator.proofs.Sound.{rules_promised}
use Rattle.cedar_evaluator.proofs.evaluator.Evaluator.decide_by_parts.Goals as goal

pub returns-clause-decides : goal.returns-clause-decides
returns-clause-decides g c =
    let p = policy_view c.args.policy.now in
    let t = condition_term p in
    let answer = partial_answer c.joined_parts.result in
    partly_promised (setting_of c.args.self.now p.slots) (calls_in c.args.self.now) (limit_of c.args.self.now) t answer (partly_decided c.decided_by.result)
    (rules_promised c.args.self.now p.slots (limit_of c.args.self.now) t answer c.joined_parts.ensures.answer) c.decided_by.ensures.decides

pub returns-clause-place : goal.returns-clause-place
returns-clause-place g c = c.decided_by.ensures.place (policy_location c.args.policy.now) c.joined_parts.ensures.place
