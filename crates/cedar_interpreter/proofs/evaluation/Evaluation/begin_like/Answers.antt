use Rattle.std.proofs.Common.{subst}
use Rattle.cedar_model.specs.Terms.{like}
use Rattle.cedar_model.specs.Operators.{like_answer}
use Rattle.cedar_model.specs.Failures.{answers_value}
use Rattle.cedar_model.specs.Rules.{Runs, on_part}
use Rattle.cedar_names.specs.Leaves.{pattern_view}
use Rattle.cedar_expressions.specs.View.{view}
use Rattle.cedar_interpreter.specs.Settings.{evaluation_setting, calls_in}
use Rattle.cedar_interpreter.proofs.ContinuationLaws.{starts_in}
use Rattle.cedar_interpreter.proofs.DirectLaws.{direct_gives}
use Rattle.cedar_interpreter.proofs.evaluation.Evaluation.begin_like.Goals as goal

pub returns-in-Some : goal.returns-in-Some
returns-in-Some g c =
    let e = c.args.self.now in
    let t = view c.args.expr.now.value in
    let p = pattern_view c.args.pattern.now in
    direct_gives e c.args.levels c.args.whole.now (like t p) t c.in-Some.direct.what (on_part (like_answer p) (λ q. like q p)) c.answer_result.result
    (λ r k x a runs is. (x, runs, is))
    (λ r k speaks low. subst (λ d. Runs (evaluation_setting r e) (calls_in e) k (view d) (answers_value c.in-Some.direct.what)) c.deref.ensures (c.in-Some.ensures.direct r k speaks low))
    (c.answer_result.ensures _ c.like_of_part.ensures)

pub returns-in-None : goal.returns-in-None
returns-in-None g c =
    starts_in c.args.self.now c.args.levels c.args.whole.now (like (view c.args.expr.now.value) (pattern_view c.args.pattern.now)) c.wait_for_like.result c.wait_for_like.ensures
