use Rattle.cedar_expressions.specs.View.{view}
use Rattle.cedar_interpreter.specs.Settings.{evaluation_setting, calls_in}
use Rattle.cedar_interpreter.proofs.DirectLaws.{bool_direct}
use Rattle.cedar_interpreter.proofs.direct_evaluators.EvaluatorAbove.evaluate_boolean.Goals as goal

pub returns : goal.returns
returns g c r k speaks low =
    bool_direct (evaluation_setting r c.args.within.now) (calls_in c.args.within.now) k (view c.args.e.now) c.evaluate.result c.boolean_of.result (c.evaluate.ensures r k speaks low) c.boolean_of.ensures
