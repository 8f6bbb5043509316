use Rattle.std.proofs.Common.{IfOk, sym, ◌∙◌, subst}
use Rattle.cedar_model.specs.Failures.{answers}
use Rattle.cedar_values.specs.Residuals.{partial_view}
use Rattle.cedar_interpreter.specs.declared.frame.Pending.TheVariants as pendings
use Rattle.cedar_interpreter.specs.Continuations.{ContinuesAt}
use Rattle.cedar_interpreter.proofs.evaluation.Evaluation.resume_if_no_bool.Goals as goal

pub returns-in-Residual : goal.returns-in-Residual
returns-in-Residual g c =
    subst (λ p. IfOk c.begin_if_first_branch.result (ContinuesAt c.args.self.now c.args.whole (pendings.Guard c.args.then_expr c.args.else_expr) (answers (partial_view p))))
    (sym c.in-Residual.is ∙ c.into_inner.ensures) c.begin_if_first_branch.ensures
