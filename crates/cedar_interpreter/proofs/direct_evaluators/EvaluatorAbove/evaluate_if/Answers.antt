use Rattle.std.proofs.Common.{ap, ◌∙◌, subst, Some}
use Rattle.cedar_expressions.specs.View.{view}
use Rattle.cedar_interpreter.specs.Settings.{evaluation_setting, calls_in}
use Rattle.cedar_interpreter.specs.Direct.{IsDirectBool}
use Rattle.cedar_interpreter.proofs.DirectEvaluatorLaws.{true_guard_direct, false_guard_direct}
use Rattle.cedar_interpreter.proofs.direct_evaluators.EvaluatorAbove.evaluate_if.Goals as goal

pub returns-in-Some-true : goal.returns-in-Some-true
returns-in-Some-true g c r k speaks low =
    let s = evaluation_setting r c.args.within.now in
    let calls = calls_in c.args.within.now in
    true_guard_direct s calls k (view c.args.test_expr.now) (view c.args.then_expr.now) (view c.args.else_expr.now) c.evaluate.result (subst (IsDirectBool s calls k (view c.args.test_expr.now)) (c.in-Some-true.is ∙ ap Some c.in-Some-true.field-0-test) (c.evaluate_boolean.ensures r k speaks low)) (c.evaluate.ensures r k speaks low)

pub returns-in-Some-false : goal.returns-in-Some-false
returns-in-Some-false g c r k speaks low =
    let s = evaluation_setting r c.args.within.now in
    let calls = calls_in c.args.within.now in
    false_guard_direct s calls k (view c.args.test_expr.now) (view c.args.else_expr.now) (view c.args.then_expr.now) c.evaluate-in-Some-false.result (subst (IsDirectBool s calls k (view c.args.test_expr.now)) (c.in-Some-false.is ∙ ap Some c.in-Some-false.field-0-test) (c.evaluate_boolean.ensures r k speaks low)) (c.evaluate-in-Some-false.ensures r k speaks low)
