use Rattle.std.proofs.Common.{◌≡◌, subst, IfSome}
use Rattle.cedar_names.specs.Leaves.{binary_view}
use Rattle.cedar_interpreter.proofs.Operands.{values_alike}
use Rattle.cedar_model.specs.Failures.{answers_value}
use Rattle.cedar_expressions.specs.View.{view}
use Rattle.cedar_interpreter.specs.Settings.{evaluation_setting, calls_in}
use Rattle.cedar_interpreter.proofs.DirectEvaluatorLaws.{operands_direct}
use Rattle.cedar_interpreter.proofs.direct_evaluators.EvaluatorAbove.evaluate_binary.Goals as goal

pub returns-in-Some-evaluate : goal.returns-in-Some-evaluate
returns-in-Some-evaluate g c r k speaks low =
    let s = evaluation_setting r c.args.within.now in
    operands_direct s (calls_in c.args.within.now) k (binary_view c.args.op) (view c.args.left.now) (view c.args.right.now) c.in-Some.left.what c.in-Some-evaluate.right.what c.operator_on_values.result
    (c.in-Some.ensures r k speaks low) (c.in-Some-evaluate.ensures r k speaks low)
    (subst (λ b. IfSome c.operator_on_values.result (λ v. answers_value v.what ≡ b)) (values_alike s (binary_view c.args.op) c.in-Some.left.what c.in-Some-evaluate.right.what)
    (c.operator_on_values.ensures s))
