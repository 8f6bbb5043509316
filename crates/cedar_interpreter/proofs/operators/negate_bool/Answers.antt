use Rattle.std.proofs.Common.{sym, ap, ◌≡◌, ◌∙◌, subst}
use Rattle.std.specs.Prelude.{not}
use Rattle.cedar_model.specs.Terms.{unary}
use Rattle.cedar_model.specs.Failures.{answers, answers_bool}
use Rattle.cedar_model.specs.Operators.{unary_answer}
use Rattle.cedar_model.specs.Rules.{on_part}
use Rattle.cedar_names.specs.Leaves.{unary_view}
use Rattle.cedar_values.specs.Residuals.{partial_view}
use Rattle.cedar_interpreter.proofs.BooleanLaws.{negates}
use Rattle.cedar_interpreter.proofs.operators.negate_bool.Goals as goal

pub returns-in-Some-clause-negated : goal.returns-in-Some-clause-negated
returns-in-Some-clause-negated c = λ h.
    let p = partial_view c.args.part.now in
    ap (λ q. answers (partial_view q)) c.replace.ensures.after ∙ ap answers c.bool_part.ensures
    ∙ subst (λ o. answers_bool (not c.in-Some.b) ≡ on_part (unary_answer (unary_view o)) (unary (unary_view o)) (answers p)) (sym c.in-Not.is)
    (negates p c.in-Some.b (sym c.known_bool.ensures ∙ c.in-Some.is))
