use Rattle.std.proofs.Common.{◌≡◌, IfOk, sym, subst}
use Rattle.cedar_model.specs.Terms.{if_then_else}
use Rattle.cedar_model.specs.Failures.{answers_residual}
use Rattle.cedar_model.specs.Rules.{AfterBest, best, kept}
use Rattle.cedar_expressions.specs.View.{view, expr_loc}
use Rattle.cedar_values.specs.Residuals.{residual_term}
use Rattle.cedar_interpreter.specs.declared.frame.Pending.TheVariants as pendings
use Rattle.cedar_interpreter.specs.Settings.{evaluation_setting, calls_in}
use Rattle.cedar_interpreter.proofs.Laws.{gives_continues}
use Rattle.cedar_interpreter.proofs.evaluation.Evaluation.end_if_branches.Goals as goal

pub returns-in-Ok : goal.returns-in-Ok
returns-in-Ok g c x is_kept r k =
    let f = c.args.second.value in
    let right = view f.else_expr.value in
    let best_is : best x right ≡ kept (view c.in-Ok.else_expr) = subst (λ m. IfOk m (λ e. best x right ≡ kept (view e))) c.in-Ok.is is_kept in
    gives_continues (evaluation_setting r c.args.self.now) (calls_in c.args.self.now) k (expr_loc c.args.whole.value) (pendings.Else c.args.second) x (answers_residual (if_then_else (residual_term f.guard) (view f.then_expr) (view c.in-Ok.else_expr))) c.answer_result.result
    (λ a ok is. subst (λ o. AfterBest o (λ e b. b ≡ answers_residual (if_then_else (residual_term f.guard) (view f.then_expr) e)) a) (sym best_is) is)
    (c.answer_result.ensures _ (rw (c.into_inner-guard.ensures) at c.residual_if-answer.ensures))
