use Rattle.std.proofs.Common.{subst}
use Rattle.cedar_model.specs.Terms.{if_then_else}
use Rattle.cedar_expressions.specs.View.{view}
use Rattle.cedar_interpreter.specs.declared.frame.Pending.TheVariants as pendings
use Rattle.cedar_interpreter.specs.Continuations.{StartsAt}
use Rattle.cedar_interpreter.proofs.ContinuationLaws.{waits_at}
use Rattle.cedar_interpreter.proofs.evaluation.Evaluation.begin_if.Goals as goal

pub returns-in-Ok : goal.returns-in-Ok
returns-in-Ok g c =
    let e = c.args.self.now in
    let w = c.args.whole.now in
    let test = view c.args.test_expr.now.value in
    subst (λ x. StartsAt e w (if_then_else test (view c.args.then_expr.now.value) (view x)) c.wait.result) c.in-Ok.ensures.second
    (subst (λ x. StartsAt e w (if_then_else test (view x) (view c.in-Ok.else_expr.value)) c.wait.result) c.in-Ok.ensures.first
    (waits_at e w (pendings.Guard c.in-Ok.then_expr c.in-Ok.else_expr) (if_then_else test (view c.in-Ok.then_expr.value) (view c.in-Ok.else_expr.value)) c.args.test_expr.now c.wait.result (λ r k x a runs uses. (x, runs, uses)) c.wait.ensures))
