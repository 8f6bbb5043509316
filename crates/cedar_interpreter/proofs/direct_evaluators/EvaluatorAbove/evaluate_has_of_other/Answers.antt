use Rattle.std.proofs.Common.{◌≡◌, subst, IfSome}
use Rattle.std.specs.Rc.{rc_str_bytes}
use Rattle.cedar_model.specs.Terms.{has_attribute}
use Rattle.cedar_model.specs.Rules.{has_part}
use Rattle.cedar_interpreter.proofs.Operands.{tested_alike}
use Rattle.cedar_model.specs.Failures.{answers_value, value}
use Rattle.cedar_expressions.specs.View.{view}
use Rattle.cedar_interpreter.specs.Settings.{evaluation_setting, calls_in}
use Rattle.cedar_interpreter.proofs.DirectLaws.{value_found}
use Rattle.cedar_interpreter.proofs.DirectEvaluatorLaws.{part_direct}
use Rattle.cedar_interpreter.proofs.direct_evaluators.EvaluatorAbove.evaluate_has_of_other.Goals as goal

pub returns-in-Some : goal.returns-in-Some
returns-in-Some g c r k speaks low =
    let s = evaluation_setting r c.args.within.now in
    part_direct s (calls_in c.args.within.now) k (has_attribute (view c.args.expr.now) (rc_str_bytes c.args.attr.now)) (view c.args.expr.now) (has_part s (rc_str_bytes c.args.attr.now)) c.in-Some.value.what c.answered_value.result (λ x a runs is. (x, runs, is))
    (c.in-Some.ensures r k speaks low)
    (subst (λ b. IfSome c.answered_value.result (λ v. answers_value v.what ≡ b)) (tested_alike s (rc_str_bytes c.args.attr.now) (value c.in-Some.value.what)) (value_found c.has_of_part.result c.answered_value.result _ c.answered_value.ensures (c.has_of_part.ensures s)))
