-- What follows of an answer for what is made of it.
use Rattle.std.specs.Prelude.{◌≡◌, ◌≢◌, ℕ, Bool, Result, Err}
use Rattle.std.proofs.Common.{refl, sym, ap, ◌∙◌, subst}
use Rattle.cedar_model.specs.Terms.{Term}
use Rattle.cedar_model.specs.World.{World, Functions}
use Rattle.cedar_model.specs.Failures.{Failure, out_of_memory, value, residual, Answer, answers, fails}
use Rattle.cedar_model.specs.Settings.{Setting}
use Rattle.cedar_model.specs.Rules.{StoredCalls, Meets}
use Rattle.cedar_model.specs.Agreement.{own_world}
use Rattle.cedar_model.specs.Authorizations.{evaluated, IsExact, IsExactDecision}
use Rattle.cedar_model.specs.Responses.{Decided, errs_with, decided, result_of}
use Rattle.cedar_model.proofs.Exactly.{decision_exact}
use Rattle.cedar_restricted.specs.Evaluations.{only_values}
use Rattle.cedar_interpreter.specs.Promises.{IsPromised, IsKnownExactly}
use Rattle.cedar_evaluator.specs.Evaluations.{IsPromisedValue, IsDecidedExactly}

module _ (s : Setting) (calls : StoredCalls) (levels : ℕ) (t : Term) where
  -- a value is asked for
  pub only_promised : (b a : Answer) → Meets (IsPromised s calls levels t) b → (a ≢ fails out_of_memory → a ≡ only_values b) → Meets (IsPromisedValue s calls levels t) a
  unfolding only_values
  only_promised b a may is ok = (b, may (λ w. ok (is ok ∙ ap only_values w)), is ok)

  nothing_left : (ans : Functions) (w : World) (a : Answer) → IsExact calls ans w s levels t a → only_values a ≡ a
  unfolding only_values
  nothing_left ans w (answers (value v)) x = refl
  nothing_left ans w (answers (residual r)) x = absurd (x.meant (λ e. cc))
  nothing_left ans w (fails e) x = refl

  pub known_value : (a : Answer) → Meets (IsPromisedValue s calls levels t) a → a ≢ fails out_of_memory → IsKnownExactly s calls levels t a
  known_value a may ok nothing ans agree known sigma =
      let z = may ok in
      let exact : IsExact calls ans (own_world s sigma) s levels t z.0 = z.1.known nothing ans agree known sigma in
      subst (IsExact calls ans (own_world s sigma) s levels t) (sym (z.2 ∙ nothing_left ans (own_world s sigma) z.0 exact)) exact

  -- a decision is asked for
  pub partly_promised : (b : Answer) (d : Decided) → Meets (IsPromised s calls levels t) b → (d ≢ errs_with out_of_memory → d ≡ decided b) → d ≢ errs_with out_of_memory → (x : Answer) × IsPromised s calls levels t x × (d ≡ decided x)
  unfolding decided
  partly_promised b d may is ok = (b, may (λ w. ok (is ok ∙ ap decided w)), is ok)

  pub wholly_promised : (d : Decided) (r : Result Bool Failure) → (d ≢ errs_with out_of_memory → (x : Answer) × IsPromised s calls levels t x × (d ≡ decided x)) → (r ≢ Err out_of_memory → r ≡ result_of d) → r ≢ Err out_of_memory → (x : Answer) × IsPromised s calls levels t x × (r ≡ evaluated x)
  unfolding result_of
  wholly_promised d r may is ok =
      let z = may (λ w. ok (is ok ∙ ap result_of w)) in
      (z.0, z.1, is ok ∙ ap result_of z.2)

  pub known_decision : (r : Result Bool Failure) → (r ≢ Err out_of_memory → (x : Answer) × IsPromised s calls levels t x × (r ≡ evaluated x)) → r ≢ Err out_of_memory → IsDecidedExactly s calls levels t r
  known_decision r may ok nothing ans agree known sigma =
      let z = may ok in
      subst (IsExactDecision calls ans (own_world s sigma) s levels t) (sym z.2) (decision_exact calls ans agree s nothing sigma levels t z.0 known z.1.runs)
