use Rattle.std.proofs.Common.{subst}
use Rattle.cedar_operators.specs.Connectives.{joined_terms}
use Rattle.cedar_expressions.specs.View.{view}
use Rattle.cedar_interpreter.specs.declared.frame.Pending.TheVariants as pendings
use Rattle.cedar_interpreter.specs.Settings.{evaluation_setting, calls_in}
use Rattle.cedar_interpreter.specs.Continuations.{StartsAt}
use Rattle.cedar_interpreter.proofs.ContinuationLaws.{waits_at, left_side_waits}
use Rattle.cedar_interpreter.proofs.evaluation.Evaluation.begin_and_or.Goals as goal

pub returns-in-Ok : goal.returns-in-Ok
returns-in-Ok g c =
    let e = c.args.self.now in
    let w = c.args.whole.now in
    subst (λ x. StartsAt e w (joined_terms c.args.connective (view c.args.left.now.value) (view x)) c.wait.result) c.in-Ok.ensures.cases
    (waits_at e w (pendings.LeftSide c.args.connective c.in-Ok.right) (joined_terms c.args.connective (view c.args.left.now.value) (view c.in-Ok.right.value)) c.args.left.now c.wait.result (λ r k. left_side_waits (evaluation_setting r e) (calls_in e) k c.args.connective c.in-Ok.right (view c.args.left.now.value)) c.wait.ensures)
