use Rattle.cedar_model.specs.Terms.{unary}
use Rattle.cedar_names.specs.Leaves.{unary_view}
use Rattle.cedar_expressions.specs.View.{view}
use Rattle.cedar_interpreter.specs.declared.frame.Pending.TheVariants as pendings
use Rattle.cedar_interpreter.proofs.ContinuationLaws.{waits_at}
use Rattle.cedar_interpreter.proofs.evaluation.Evaluation.begin_unary.Goals as goal

pub returns : goal.returns
returns g c =
    waits_at c.args.self.now c.args.whole.now (pendings.Unary c.args.op)
    (unary (unary_view c.args.op) (view c.args.arg.now.value)) c.args.arg.now c.wait.result (λ r k x a runs uses. (x, runs, uses)) c.wait.ensures
