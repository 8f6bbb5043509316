use Rattle.std.proofs.Common.{sym, ap, ◌∙◌, subst}
use Rattle.cedar_model.specs.Failures.{answers}
use Rattle.cedar_expressions.specs.View.{expr_loc}
use Rattle.cedar_values.specs.Residuals.{partial_view}
use Rattle.cedar_interpreter.specs.Tasks.{Gives}
use Rattle.cedar_interpreter.proofs.evaluation.Evaluation.apply_binary_stored.Goals as goal

pub returns-in-Some : goal.returns-in-Some
returns-in-Some g c r =
    let told = rw (c.deref.ensures) at (c.in-Some.ensures r) in
    subst (Gives (expr_loc c.args.whole.now.value) c.put_at.result)
    (ap (λ p. answers (partial_view p)) c.replace.ensures.after ∙ ap answers c.bool_part.ensures ∙ sym told)
    c.put_at.ensures.answer
