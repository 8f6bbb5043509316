use Rattle.std.proofs.Common.{subst}
use Rattle.cedar_model.specs.Terms.{like}
use Rattle.cedar_names.specs.Leaves.{pattern_view}
use Rattle.cedar_expressions.specs.View.{view}
use Rattle.cedar_interpreter.specs.declared.frame.Pending.TheVariants as pendings
use Rattle.cedar_interpreter.specs.Continuations.{StartsAt}
use Rattle.cedar_interpreter.proofs.ContinuationLaws.{waits_at}
use Rattle.cedar_interpreter.proofs.evaluation.Evaluation.wait_for_like.Goals as goal

pub returns-in-Ok : goal.returns-in-Ok
returns-in-Ok g c =
    let e = c.args.self.now in
    let w = c.args.whole.now in
    subst (λ x. StartsAt e w (like (view c.args.expr.now.value) x) c.wait.result) c.in-Ok.ensures
    (waits_at e w (pendings.Like c.in-Ok.pattern) (like (view c.args.expr.now.value) (pattern_view c.in-Ok.pattern.value)) c.args.expr.now c.wait.result (λ r k x a runs uses. (x, runs, uses)) c.wait.ensures)
