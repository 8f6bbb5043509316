use Rattle.std.proofs.Common.{subst}
use Rattle.std.specs.Rc.{rc_str_bytes}
use Rattle.cedar_model.specs.Terms.{get_attribute}
use Rattle.cedar_expressions.specs.View.{view}
use Rattle.cedar_interpreter.specs.declared.frame.Pending.TheVariants as pendings
use Rattle.cedar_interpreter.specs.Continuations.{StartsAt}
use Rattle.cedar_interpreter.proofs.ContinuationLaws.{waits_at}
use Rattle.cedar_interpreter.proofs.evaluation.Evaluation.wait_for_attribute.Goals as goal

pub returns-in-Ok : goal.returns-in-Ok
returns-in-Ok g c =
    let e = c.args.self.now in
    let w = c.args.whole.now in
    subst (λ x. StartsAt e w (get_attribute (view c.args.expr.now.value) x) c.wait.result) c.in-Ok.ensures.cases
    (waits_at e w (pendings.GetAttr c.in-Ok.attr) (get_attribute (view c.args.expr.now.value) (rc_str_bytes c.in-Ok.attr)) c.args.expr.now c.wait.result (λ r k x a runs uses. (x, runs, uses)) c.wait.ensures)
