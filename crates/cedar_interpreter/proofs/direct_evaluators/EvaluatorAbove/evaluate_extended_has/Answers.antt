use Rattle.std.specs.Rc.{rc_str_bytes}
use Rattle.cedar_names.specs.Leaves.{texts_view}
use Rattle.cedar_expressions.specs.View.{view}
use Rattle.cedar_interpreter.specs.Settings.{evaluation_setting, calls_in}
use Rattle.cedar_interpreter.proofs.DirectLaws.{value_found}
use Rattle.cedar_interpreter.proofs.DirectEvaluatorLaws.{path_direct}
use Rattle.cedar_interpreter.proofs.direct_evaluators.EvaluatorAbove.evaluate_extended_has.Goals as goal

pub returns-in-Some : goal.returns-in-Some
returns-in-Some g c r k speaks low =
    let s = evaluation_setting r c.args.within.now in
    path_direct s (calls_in c.args.within.now) k (view c.args.expr.now) c.in-Some.value.what (rc_str_bytes c.args.attrs.now.first)
    (texts_view c.args.attrs.now.rest.items) c.answered_value.result (c.in-Some.ensures r k speaks low)
    (value_found c.extended_has_of_part.result c.answered_value.result _ c.answered_value.ensures (c.extended_has_of_part.ensures))
