use Rattle.std.proofs.Common.{subst}
use Rattle.cedar_model.specs.Terms.{binary}
use Rattle.cedar_names.specs.Leaves.{binary_view}
use Rattle.cedar_expressions.specs.View.{view}
use Rattle.cedar_interpreter.specs.declared.frame.Pending.TheVariants as pendings
use Rattle.cedar_interpreter.specs.Continuations.{StartsAt}
use Rattle.cedar_interpreter.proofs.ContinuationLaws.{waits_at}
use Rattle.cedar_interpreter.proofs.evaluation.Evaluation.wait_for_binary.Goals as goal

pub returns-in-Ok : goal.returns-in-Ok
returns-in-Ok g c =
    let e = c.args.self.now in
    let w = c.args.whole.now in
    subst (λ x. StartsAt e w (binary (binary_view c.args.op) (view c.args.left.now.value) (view x)) c.wait.result) c.in-Ok.ensures.cases
    (waits_at e w (pendings.BinaryLeft c.args.op c.in-Ok.right) (binary (binary_view c.args.op) (view c.args.left.now.value) (view c.in-Ok.right.value)) c.args.left.now c.wait.result (λ r k x a runs uses. (x, runs, uses)) c.wait.ensures)
