use Rattle.std.proofs.Common.{subst}
use Rattle.cedar_model.specs.Terms.{is_of_type}
use Rattle.cedar_model.specs.Failures.{answers_value}
use Rattle.cedar_model.specs.Rules.{Runs, is_part}
use Rattle.cedar_names.specs.Names.{type_text}
use Rattle.cedar_expressions.specs.View.{view}
use Rattle.cedar_interpreter.specs.Settings.{evaluation_setting, calls_in}
use Rattle.cedar_interpreter.proofs.ContinuationLaws.{starts_in}
use Rattle.cedar_interpreter.proofs.DirectLaws.{direct_gives}
use Rattle.cedar_interpreter.proofs.evaluation.Evaluation.begin_is.Goals as goal

pub returns-in-Some : goal.returns-in-Some
returns-in-Some g c =
    let e = c.args.self.now in
    let t = view c.args.expr.now.value in
    let u = type_text c.args.entity_type.now in
    direct_gives e c.args.levels c.args.whole.now (is_of_type t u) t c.in-Some.direct.what (is_part u) c.answer_result.result
    (λ r k x a runs is. (x, runs, is))
    (λ r k speaks low. subst (λ d. Runs (evaluation_setting r e) (calls_in e) k (view d) (answers_value c.in-Some.direct.what)) c.deref.ensures (c.in-Some.ensures.direct r k speaks low))
    (c.answer_result.ensures _ c.is_of_part.ensures)

pub returns-in-None : goal.returns-in-None
returns-in-None g c =
    starts_in c.args.self.now c.args.levels c.args.whole.now (is_of_type (view c.args.expr.now.value) (type_text c.args.entity_type.now)) c.wait_for_is.result c.wait_for_is.ensures
