use Rattle.cedar_model.specs.Terms.{like}
use Rattle.cedar_model.specs.Operators.{like_answer}
use Rattle.cedar_model.specs.Rules.{on_part}
use Rattle.cedar_names.specs.Leaves.{pattern_view}
use Rattle.cedar_expressions.specs.View.{view}
use Rattle.cedar_interpreter.specs.Settings.{evaluation_setting, calls_in}
use Rattle.cedar_interpreter.proofs.DirectLaws.{value_found}
use Rattle.cedar_interpreter.proofs.DirectEvaluatorLaws.{part_direct}
use Rattle.cedar_interpreter.proofs.direct_evaluators.EvaluatorAbove.evaluate_like.Goals as goal

pub returns-in-Some : goal.returns-in-Some
returns-in-Some g c r k speaks low =
    let s = evaluation_setting r c.args.within.now in
    part_direct s (calls_in c.args.within.now) k (like (view c.args.expr.now) (pattern_view c.args.pattern.now)) (view c.args.expr.now) (on_part (like_answer (pattern_view c.args.pattern.now)) (λ q. like q (pattern_view c.args.pattern.now))) c.in-Some.value.what c.answered_value.result (λ x a runs is. (x, runs, is))
    (c.in-Some.ensures r k speaks low)
    (value_found c.like_of_part.result c.answered_value.result _ c.answered_value.ensures (c.like_of_part.ensures))
