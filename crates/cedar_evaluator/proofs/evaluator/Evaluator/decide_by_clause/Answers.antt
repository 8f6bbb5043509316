use Rattle.std.proofs.Common.{◌≡◌, ◌≤◌, ◌-◌, suc, subst, arith}
use Rattle.cedar_model.specs.Terms.{Term}
use Rattle.cedar_model.specs.World.{Slots}
use Rattle.cedar_model.specs.Failures.{answers_bool}
use Rattle.cedar_expressions.specs.View.{view}
use Rattle.cedar_layers.specs.Policies.{slots_view, policy_view, condition_term}
use Rattle.cedar_errors.specs.Answers.{partial_answer}
use Rattle.cedar_interpreter.specs.Promises.{IsPromised}
use Rattle.cedar_evaluator.specs.Decisions.{partly_decided, PartlyDecidesBy}
use Rattle.cedar_evaluator.specs.Evaluations.{variables_of, request_in, setting_of, calls_in}
use Rattle.cedar_evaluator.specs.Direct.{scope_term, AnswersFrom, RunsWith}
use Rattle.cedar_evaluator.proofs.Requests.{says}
use Rattle.cedar_evaluator.proofs.Direct.{beside_true_bool, bool_promised, beside_promised}
use Rattle.cedar_evaluator.proofs.evaluator.Evaluator.decide_by_clause.Goals as goal

pub returns-in-Some-clause-decides : goal.returns-in-Some-clause-decides
returns-in-Some-clause-decides g c direct ok =
    let p = policy_view c.args.policy.now in
    let v = c.args.self.now in
    let three : 3 ≤ 5 = omega arith in
    bool_promised v p.slots v.limit (condition_term p) c.in-Some.is_true
    (beside_true_bool v p.slots 3 5 (scope_term p) p.when_clause c.in-Some.is_true three direct
    (subst (λ (t : Term). AnswersFrom v p.slots 3 t (answers_bool c.in-Some.is_true)) c.when_clause-clause.ensures.view
    (subst (λ (s : Slots). AnswersFrom v s 3 (view c.when_clause-clause.result.now) (answers_bool c.in-Some.is_true)) c.env-slots.ensures c.in-Some.ensures))
    v.limit c.requires)

pub returns-in-None-clause-decides : goal.returns-in-None-clause-decides
returns-in-None-clause-decides g c direct =
    let p = policy_view c.args.policy.now in
    let v = c.args.self.now in
    let answer = partial_answer c.interpret-answer.result in
    let slots = slots_view c.env-slots.result.now in
    let levels : suc (v.limit - 1) ≡ v.limit = omega (arith, c.requires) in
    let enough : 5 ≤ v.limit - 1 = omega (arith, c.requires) in
    let runs : RunsWith v slots (v.limit - 1) (view c.when_clause-clause.result.now) answer =
    c.interpret-answer.ensures.runs (request_in v) (says (variables_of v.given) v.of_request) in
    subst (λ n. PartlyDecidesBy (IsPromised (setting_of v p.slots) (calls_in v) n (condition_term p)) c.beside_true.result) levels
    (beside_promised v p.slots (v.limit - 1) (scope_term p) p.when_clause answer (partly_decided c.beside_true.result)
    (direct (v.limit - 1) enough)
    (subst (λ (s : Slots). RunsWith v s (v.limit - 1) p.when_clause answer) c.env-slots.ensures
    (subst (λ (t : Term). RunsWith v slots (v.limit - 1) t answer) c.when_clause-clause.ensures.view runs))
    c.beside_true.ensures.decides)
