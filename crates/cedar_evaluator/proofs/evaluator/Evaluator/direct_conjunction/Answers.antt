use Rattle.std.proofs.Common.{ap, ◌∙◌, Some, true, false}
use Rattle.cedar_model.specs.Failures.{answers_bool}
use Rattle.cedar_expressions.specs.View.{view}
use Rattle.cedar_layers.specs.Policies.{slots_view}
use Rattle.cedar_evaluator.specs.Direct.{AnswersFrom}
use Rattle.cedar_evaluator.proofs.Direct.{of_some, beside_false_direct, beside_true_direct}
use Rattle.cedar_evaluator.proofs.evaluator.Evaluator.direct_conjunction.Goals as goal

pub returns-in-Some-true : goal.returns-in-Some-true
returns-in-Some-true g c k t three h =
    beside_true_direct c.args.self.now (slots_view c.args.slots.now) 3 k t (view c.args.right.now) c.direct_part.result three
    (of_some (λ b. AnswersFrom c.args.self.now (slots_view c.args.slots.now) k t (answers_bool b)) c.args.left true (c.in-Some-true.is ∙ ap Some c.in-Some-true.field-0-test) h)
    c.direct_part.ensures

pub returns-in-Some-false : goal.returns-in-Some-false
returns-in-Some-false g c k t three h =
    beside_false_direct c.args.self.now (slots_view c.args.slots.now) k t (view c.args.right.now)
    (of_some (λ b. AnswersFrom c.args.self.now (slots_view c.args.slots.now) k t (answers_bool b)) c.args.left false (c.in-Some-false.is ∙ ap Some c.in-Some-false.field-0-test) h)
