use Rattle.std.proofs.Common.{sym, ap, ◌≡◌, ◌∙◌, subst, Some}
use Rattle.cedar_model.specs.Failures.{answers}
use Rattle.cedar_values.specs.Residuals.{partial_view}
use Rattle.cedar_operators.specs.Connectives.{beside_neutral}
use Rattle.cedar_interpreter.specs.Booleans.{part_bool}
use Rattle.cedar_interpreter.proofs.BooleanLaws.{joins}
use Rattle.cedar_interpreter.proofs.evaluation.Evaluation.resume_and_or_right.Goals as goal

pub returns-in-Some : goal.returns-in-Some
returns-in-Some g c r k =
    let p = partial_view c.args.right.value in (
      λ ok. ap answers c.bool_at.ensures.view ∙ joins (beside_neutral c.args.connective) p c.in-Some.b
          (subst (λ x. part_bool (partial_view x) ≡ Some c.in-Some.b) c.deref.ensures (sym c.known_bool.ensures ∙ c.in-Some.is)),
      c.bool_at.ensures.place,
    )
