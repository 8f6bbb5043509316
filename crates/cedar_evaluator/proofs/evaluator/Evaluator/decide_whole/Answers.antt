use Rattle.cedar_layers.specs.Policies.{policy_view, condition_term}
use Rattle.cedar_errors.specs.Answers.{partial_answer}
use Rattle.cedar_evaluator.specs.Decisions.{partly_decided}
use Rattle.cedar_evaluator.specs.Evaluations.{setting_of, calls_in, limit_of}
use Rattle.cedar_evaluator.proofs.Knowing.{partly_promised}
use Rattle.cedar_evaluator.proofs.Sound.{rules_promised}
use Rattle.cedar_evaluator.proofs.evaluator.Evaluator.decide_whole.Goals as goal

pub returns-clause-decides : goal.returns-clause-decides
returns-clause-decides g c =
    let t = condition_term (policy_view c.args.policy.now) in
    let slots = (policy_view c.args.policy.now).slots in
    let answer = partial_answer c.partial_interpret.result in
    partly_promised (setting_of c.args.self.now slots) (calls_in c.args.self.now) (limit_of c.args.self.now) t answer (partly_decided c.decided_by.result)
    (rules_promised c.args.self.now slots (limit_of c.args.self.now) t answer
    (rw (c.in_ok-condition.ensures.view, c.env.ensures) at c.partial_interpret.ensures.rules)) c.decided_by.ensures.decides

pub returns-clause-place : goal.returns-clause-place
returns-clause-place g c = c.decided_by.ensures.place _ (rw c.in_ok-condition.ensures.loc at c.partial_interpret.ensures.place)
