use Rattle.cedar_model.specs.Terms.{is_of_type}
use Rattle.cedar_model.specs.Rules.{is_part}
use Rattle.cedar_names.specs.Names.{type_text}
use Rattle.cedar_expressions.specs.View.{view}
use Rattle.cedar_interpreter.specs.Settings.{evaluation_setting, calls_in}
use Rattle.cedar_interpreter.proofs.DirectLaws.{value_found}
use Rattle.cedar_interpreter.proofs.DirectEvaluatorLaws.{part_direct}
use Rattle.cedar_interpreter.proofs.direct_evaluators.EvaluatorAbove.evaluate_is.Goals as goal

pub returns-in-Some : goal.returns-in-Some
returns-in-Some g c r k speaks low =
    let s = evaluation_setting r c.args.within.now in
    part_direct s (calls_in c.args.within.now) k (is_of_type (view c.args.expr.now) (type_text c.args.entity_type.now)) (view c.args.expr.now) (is_part (type_text c.args.entity_type.now)) c.in-Some.value.what c.answered_value.result (λ x a runs is. (x, runs, is))
    (c.in-Some.ensures r k speaks low)
    (value_found c.is_of_part.result c.answered_value.result _ c.answered_value.ensures (c.is_of_part.ensures))
