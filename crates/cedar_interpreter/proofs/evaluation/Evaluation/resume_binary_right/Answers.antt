use Rattle.std.proofs.Common.{subst}
use Rattle.cedar_model.specs.Failures.{answers}
use Rattle.cedar_expressions.specs.View.{expr_loc}
use Rattle.cedar_values.specs.Residuals.{partial_view}
use Rattle.cedar_interpreter.specs.declared.frame.Pending.TheVariants as pendings
use Rattle.cedar_interpreter.specs.Settings.{evaluation_setting, calls_in}
use Rattle.cedar_interpreter.specs.Tasks.{Continues}
use Rattle.cedar_interpreter.proofs.evaluation.Evaluation.resume_binary_right.Goals as goal

pub returns : goal.returns
returns g c r k =
    subst (λ p. Continues (evaluation_setting r c.args.self.now) (calls_in c.args.self.now) k (expr_loc c.args.whole.now.value) (pendings.BinaryRight c.args.op c.args.left) (answers (partial_view p)) c.apply_binary.result) c.into_inner.ensures (c.apply_binary.ensures r k)
