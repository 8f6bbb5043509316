use Rattle.std.proofs.Common.{ap, ◌∙◌, ◌≤◌, arith, Some, true, false}
use Rattle.cedar_model.specs.Terms.{both}
use Rattle.cedar_model.specs.Failures.{answers_bool}
use Rattle.cedar_expressions.specs.View.{view}
use Rattle.cedar_layers.specs.Policies.{slots_view}
use Rattle.cedar_evaluator.specs.Direct.{AnswersFrom}
use Rattle.cedar_evaluator.proofs.Direct.{of_some, beside_false_direct, beside_true_direct, told_beside_false}
use Rattle.cedar_evaluator.proofs.evaluator.Evaluator.direct_scope.Goals as goal

pub returns-then-is_told-2 : goal.returns-then-is_told-2
returns-then-is_told-2 g c =
    let v = c.args.self.now in
    let slots = slots_view c.env-slots.result.now in
    let resource = view c.resource_constraint.result.now in
    rw (c.env-slots.ensures, c.principal_constraint.ensures.view, c.action_constraint.ensures.view, c.resource_constraint.ensures.view)
    at (told_beside_false v slots (view c.principal_constraint.result.now) (view c.action_constraint.result.now) resource
    (c.is_told.ensures c.if-is_told.true) (c.is_told-then-is_told.ensures c.if-is_told-2.true)
    (of_some (λ b. AnswersFrom v slots 3 resource (answers_bool b)) c.direct_part-resource.result false (c.is_false.ensures c.if-is_false.true) c.direct_part-resource.ensures))

pub returns-in-Some-true : goal.returns-in-Some-true
returns-in-Some-true g c =
    let v = c.args.self.now in
    let slots = slots_view c.env-slots.result.now in
    let principal = view c.principal_constraint-2.result.now in
    let pair = both principal (view c.action_constraint-2.result.now) in
    let three : 3 ≤ 3 = omega arith in
    let four : 3 ≤ 4 = omega arith in
    rw (c.env-slots.ensures, c.principal_constraint-2.ensures.view, c.action_constraint-2.ensures.view, c.resource_constraint.ensures.view)
    at (beside_true_direct v slots 3 4 pair (view c.resource_constraint.result.now) c.direct_part-resource.result four
    (of_some (λ b. AnswersFrom v slots 4 pair (answers_bool b)) c.direct_conjunction.result true (c.in-Some-true.is ∙ ap Some c.in-Some-true.field-0-test)
    (c.direct_conjunction.ensures 3 principal three c.direct_part-principal.ensures)) c.direct_part-resource.ensures)

pub returns-in-Some-false : goal.returns-in-Some-false
returns-in-Some-false g c =
    let v = c.args.self.now in
    let slots = slots_view c.env-slots.result.now in
    let principal = view c.principal_constraint-2.result.now in
    let pair = both principal (view c.action_constraint-2.result.now) in
    let three : 3 ≤ 3 = omega arith in
    rw (c.env-slots.ensures, c.principal_constraint-2.ensures.view, c.action_constraint-2.ensures.view, c.resource_constraint.ensures.view)
    at (beside_false_direct v slots 4 pair (view c.resource_constraint.result.now)
    (of_some (λ b. AnswersFrom v slots 4 pair (answers_bool b)) c.direct_conjunction.result false (c.in-Some-false.is ∙ ap Some c.in-Some-false.field-0-test)
    (c.direct_conjunction.ensures 3 principal three c.direct_part-principal.ensures)))
