use Rattle.std.proofs.Common.{ap, ◌∙◌, arith, Some, true, false}
use Rattle.cedar_model.specs.Failures.{answers_bool}
use Rattle.cedar_expressions.specs.View.{view}
use Rattle.cedar_layers.specs.Policies.{slots_view}
use Rattle.cedar_evaluator.specs.Direct.{AnswersFrom}
use Rattle.cedar_evaluator.proofs.Direct.{of_some, beside_false_direct, beside_true_direct}
use Rattle.cedar_evaluator.proofs.evaluator.Evaluator.direct_pair.Goals as goal

pub returns-in-Some-true : goal.returns-in-Some-true
returns-in-Some-true g c =
    let v = c.args.self.now in
    let slots = slots_view c.args.slots.now in
    beside_true_direct v slots 2 2 (view c.args.left.now) (view c.args.right.now) c.direct_test-in-Some-true.result (omega arith)
    (of_some (λ b. AnswersFrom v slots 2 (view c.args.left.now) (answers_bool b)) c.direct_test.result true (c.in-Some-true.is ∙ ap Some c.in-Some-true.field-0-test) c.direct_test.ensures)
    c.direct_test-in-Some-true.ensures

pub returns-in-Some-false : goal.returns-in-Some-false
returns-in-Some-false g c =
    let v = c.args.self.now in
    let slots = slots_view c.args.slots.now in
    beside_false_direct v slots 2 (view c.args.left.now) (view c.args.right.now)
    (of_some (λ b. AnswersFrom v slots 2 (view c.args.left.now) (answers_bool b)) c.direct_test.result false (c.in-Some-false.is ∙ ap Some c.in-Some-false.field-0-test) c.direct_test.ensures)
