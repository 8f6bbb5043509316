use Rattle.std.proofs.Common.{◌≡◌, ◌++◌, ◌∷◌, [], sym, ap, ◌∙◌}
use Rattle.cedar_model.specs.Rules.{terms_of_parts}
use Rattle.cedar_expressions.specs.View.{terms_view}
use Rattle.cedar_values.specs.Residuals.{residual_term, residual_loc}
use Rattle.cedar_values.specs.Sound.{whats}
use Rattle.cedar_restricted.specs.Parts.{all_values}
use Rattle.cedar_restricted.proofs.Collected.{terms-all, residual_term_added, residual_added}
use Rattle.cedar_restricted.proofs.answers.adding.mixed_of.Goals as goal

pub returns-in_ok-first_residual-in-Ok-clause-answers : goal.returns-in_ok-first_residual-in-Ok-clause-answers
returns-in_ok-first_residual-in-Ok-clause-answers c =
    let ps = all_values (whats c.args.values.now) in
    let exprs = c.in-Ok.exprs.items in
    let made = c.in_ok-first_residual-in-Ok.ensures.exprs in
    let t = residual_term c.args.residual in
    let terms : terms_of_parts ps ≡ terms_view exprs = terms-all (whats c.args.values.now) ∙ sym c.in-Ok.ensures.terms in (
      residual_term_added ps exprs t made.0 terms made.2 ∙ ap terms_view (sym made.1),
      residual_added ps t,
    )

pub returns-in_ok-first_residual-in-Ok-clause-places : goal.returns-in_ok-first_residual-in-Ok-clause-places
returns-in_ok-first_residual-in-Ok-clause-places c =
    let l = residual_loc c.args.residual in
    c.in_ok-first_residual-in-Ok.ensures.places ∙ ap (λ ls. ls ++ l ∷ []) c.in-Ok.ensures.places
