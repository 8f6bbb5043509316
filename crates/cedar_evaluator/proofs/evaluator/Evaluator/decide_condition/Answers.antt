use Rattle.std.proofs.Common.{ap, ◌∙◌, Some, true, false}
use Rattle.cedar_model.specs.Failures.{answers_bool}
use Rattle.cedar_layers.specs.Policies.{policy_view, condition_term}
use Rattle.cedar_evaluator.specs.Direct.{scope_term, AnswersFrom}
use Rattle.cedar_evaluator.proofs.Direct.{of_some, beside_false_direct, bool_promised}
use Rattle.cedar_evaluator.proofs.evaluator.Evaluator.decide_condition.Goals as goal

pub returns-in-Some-true-clause-decides : goal.returns-in-Some-true-clause-decides
returns-in-Some-true-clause-decides g c =
    c.decide_by_clause.ensures.decides
    (of_some (λ b. AnswersFrom c.args.self.now (policy_view c.args.policy.now).slots 5 (scope_term (policy_view c.args.policy.now)) (answers_bool b)) c.direct_scope.result true
    (c.in-Some-true.is ∙ ap Some c.in-Some-true.field-0-test) c.direct_scope.ensures)

pub returns-in-Some-false-clause-decides : goal.returns-in-Some-false-clause-decides
returns-in-Some-false-clause-decides g c ok =
    let p = policy_view c.args.policy.now in
    let direct = of_some (λ b. AnswersFrom c.args.self.now p.slots 5 (scope_term p) (answers_bool b)) c.direct_scope.result false
    (c.in-Some-false.is ∙ ap Some c.in-Some-false.field-0-test) c.direct_scope.ensures in
    bool_promised c.args.self.now p.slots c.args.self.now.limit (condition_term p) false
    (beside_false_direct c.args.self.now p.slots 5 (scope_term p) p.when_clause direct c.args.self.now.limit c.if-self-lt6.false)
