use Rattle.std.proofs.Common.{suc, arith}
use Rattle.std.specs.Rc.{rc_str_bytes}
use Rattle.cedar_model.specs.Terms.{variable, has_attribute}
use Rattle.cedar_names.specs.Leaves.{variable_view}
use Rattle.cedar_expressions.specs.View.{view}
use Rattle.cedar_interpreter.specs.Settings.{evaluation_setting, calls_in}
use Rattle.cedar_interpreter.proofs.DirectEvaluatorLaws.{read_at}
use Rattle.cedar_interpreter.proofs.direct_evaluators.EvaluatorAbove.evaluate_has.Goals as goal

pub returns-in-Some : goal.returns-in-Some
returns-in-Some g c r k speaks low =
    read_at (evaluation_setting r c.args.within.now) (calls_in c.args.within.now) g.T.DirectEvaluator.height k (view c.args.expr.now) (variable (variable_view c.in-Some.var)) (λ x. has_attribute x (rc_str_bytes c.args.attr.now)) c.variable_has.result
    (λ j. c.variable_has.ensures r (suc (suc j)) speaks (omega arith)) g.met.T.DirectEvaluator.some low c.in-Some.ensures
