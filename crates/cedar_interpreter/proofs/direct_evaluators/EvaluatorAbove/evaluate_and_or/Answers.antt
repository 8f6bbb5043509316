use Rattle.std.proofs.Common.{◌≡◌, ap, ◌∙◌, subst, Some}
use Rattle.cedar_expressions.specs.View.{view}
use Rattle.cedar_operators.specs.Connectives.{deciding, neutral}
use Rattle.cedar_interpreter.specs.Settings.{evaluation_setting, calls_in}
use Rattle.cedar_interpreter.specs.Direct.{IsDirectBool, IsValueOf}
use Rattle.cedar_interpreter.proofs.DirectEvaluatorLaws.{right_direct, left_direct}
use Rattle.cedar_interpreter.proofs.direct_evaluators.EvaluatorAbove.evaluate_and_or.Goals as goal

pub returns-then-is_decided_by : goal.returns-then-is_decided_by
returns-then-is_decided_by g c r k speaks low =
    let s = evaluation_setting r c.args.within.now in
    let calls = calls_in c.args.within.now in
    let is : c.in-Some.b ≡ deciding c.args.connective = c.is_decided_by.ensures.decided c.if-is_decided_by.true in
    left_direct s calls k (view c.args.left.now) (view c.args.right.now) c.args.connective c.boolean_as_value.result
    (subst (IsDirectBool s calls k (view c.args.left.now)) (c.in-Some.is ∙ ap Some is) (c.evaluate_boolean.ensures r k speaks low))
    (subst (λ b. IsValueOf (Some b) c.boolean_as_value.result) is c.boolean_as_value.ensures)

pub returns-else-is_decided_by : goal.returns-else-is_decided_by
returns-else-is_decided_by g c r k speaks low =
    let s = evaluation_setting r c.args.within.now in
    let calls = calls_in c.args.within.now in
    let is : c.in-Some.b ≡ neutral c.args.connective = c.is_decided_by.ensures.undecided c.if-is_decided_by.false in
    right_direct s calls k (view c.args.left.now) (view c.args.right.now) c.args.connective c.evaluate_boolean-else-is_decided_by.result c.boolean_as_value-else-is_decided_by.result
    (subst (IsDirectBool s calls k (view c.args.left.now)) (c.in-Some.is ∙ ap Some is) (c.evaluate_boolean.ensures r k speaks low))
    (c.evaluate_boolean-else-is_decided_by.ensures r k speaks low) c.boolean_as_value-else-is_decided_by.ensures
