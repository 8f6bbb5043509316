use Rattle.std.proofs.Common.{◌≡◌, IfOk, sym, subst}
use Rattle.cedar_model.specs.Failures.{answers_residual}
use Rattle.cedar_model.specs.Rules.{AfterBest, best, kept}
use Rattle.cedar_expressions.specs.View.{view, expr_loc}
use Rattle.cedar_operators.specs.Connectives.{joined_terms}
use Rattle.cedar_interpreter.specs.declared.frame.Pending.TheVariants as pendings
use Rattle.cedar_interpreter.specs.Settings.{evaluation_setting, calls_in}
use Rattle.cedar_interpreter.specs.Tasks.{boxed_term}
use Rattle.cedar_interpreter.proofs.Laws.{gives_continues}
use Rattle.cedar_interpreter.proofs.evaluation.Evaluation.end_and_or.Goals as goal

pub returns-in-Ok : goal.returns-in-Ok
returns-in-Ok g c x is_kept r k =
    let join = joined_terms c.args.connective (boxed_term c.args.left) in
    let right = view c.args.right.value in
    let best_is : best x right ≡ kept (view c.in-Ok.right) = subst (λ m. IfOk m (λ e. best x right ≡ kept (view e))) c.in-Ok.is is_kept in
    gives_continues (evaluation_setting r c.args.self.now) (calls_in c.args.self.now) k (expr_loc c.args.whole.value)
    (pendings.KeptRightSide c.args.connective c.args.left c.args.right) x (answers_residual (join (view c.in-Ok.right))) c.answer_result_in.result
    (λ a ok is. subst (λ o. AfterBest o (λ t b. b ≡ answers_residual (join t)) a) (sym best_is) is)
    (c.answer_result_in.ensures _ (rw (c.taken_apart-left.ensures) at c.residual_connective-answer.ensures))
