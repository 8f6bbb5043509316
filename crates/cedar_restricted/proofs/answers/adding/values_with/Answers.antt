use Rattle.std.proofs.Common.{◌++◌, ◌∷◌, [], sym, ap, ◌∙◌, subst}
use Rattle.cedar_values.specs.Residuals.{partial_view}
use Rattle.cedar_values.specs.Sound.{whats}
use Rattle.cedar_values.specs.declared.partial_value.PartialValue.TheVariants as partials
use Rattle.cedar_restricted.specs.declared.answers.Answers.TheVariants as answereds
use Rattle.cedar_restricted.specs.Parts.{Are, all_values}
use Rattle.cedar_restricted.proofs.Collected.{value_added}
use Rattle.cedar_restricted.proofs.answers.adding.values_with.Goals as goal

pub returns-in_ok-with_value-in-Value-clause-answers : goal.returns-in_ok-with_value-in-Value-clause-answers
returns-in_ok-with_value-in-Value-clause-answers c ps h =
    ap (λ a. ps ++ partial_view a ∷ []) c.in-Value.is ∙ value_added c.args.values.items c.in-Value.value ps h ∙
    ap (λ l. all_values (whats l)) (sym c.in_ok-with_value-in-Value.ensures)

pub returns-in_ok-mixed-in-Residual-clause-answers : goal.returns-in_ok-mixed-in-Residual-clause-answers
returns-in_ok-mixed-in-Residual-clause-answers c ps h =
    let m = c.in_ok-mixed-in-Residual.mixed in
    let r = partials.Residual c.in-Residual.residual in
    subst (λ a. Are (answereds.Mixed m) (ps ++ partial_view a ∷ [])) (sym c.in-Residual.is)
    (subst (λ l. Are (answereds.Mixed m) (l ++ partial_view r ∷ [])) (sym h)
    (subst (λ l. Are (answereds.Mixed m) (all_values (whats l) ++ partial_view r ∷ [])) c.as_slice.ensures.value
    c.in_ok-mixed-in-Residual.ensures.answers))
