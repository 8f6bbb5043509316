-- Runs with more levels.
use Rattle.std.specs.Prelude.{◌≡◌, ◌≢◌, ◌⊎◌, ℕ, ◌≤◌, List, [], ◌∷◌, Option, Some, None}
use Rattle.std.proofs.Common.{inl, inr, refl, sym, ap, ◌∙◌, subst}
use Rattle.cedar_model.specs.Terms.{Text}
use Rattle.cedar_model.specs.Failures.{Failure, recursion_limit, FailureKind, of_meaning, of_residual, of_limit, of_memory, failure_kind}
use Rattle.cedar_model.specs.Failures.{Answer, answers, fails, limit}
use Rattle.cedar_model.specs.Settings.{Setting}
use Rattle.cedar_model.specs.Rules.{StoredCalls, Runs}
use Rattle.cedar_model.specs.Alike.{AreAlike, AreFunctional}
use Rattle.cedar_model.specs.Policies.{Policy, ErrorHandling}
use Rattle.cedar_model.specs.Responses.{Row, decided, error_of, with_slots, with_error, row_of, RunOf}
use Rattle.cedar_model.specs.Authorizations.{HaveNoLimit}
use Rattle.cedar_model.proofs.Determined.{kind_of_limit, runs_determined}
use Rattle.cedar_model.proofs.MoreLevels.{answers≢limit, more_levels}
use Rattle.cedar_laws.specs.LevelRuns.{StaysButForLimit, StayButForLimits}
use Rattle.cedar_laws.proofs.AlikeAnswers.{row_alike, error_alike}

-- ---- an answer that is the limit is recorded

limit_error : error_of (decided limit) ≡ Some recursion_limit
unfolding decided error_of
limit_error = refl

none_before : (id : Text) (o : Option Failure) (later : List (Text × Failure)) → HaveNoLimit (with_error id o later) → (o ≢ Some recursion_limit) × HaveNoLimit later
unfolding with_error
none_before id None later h = (λ (e : None ≡ Some recursion_limit). cc, h)
none_before id (Some e) later h = (λ (q : Some e ≡ Some recursion_limit). h.0 (cc), h.1)

not_limit : (a : Answer) → error_of (decided a) ≢ Some recursion_limit → a ≢ limit
not_limit a h e = h (ap (λ (x : Answer). error_of (decided x)) e ∙ limit_error)

failure_of_kind : (e : Failure) (k : FailureKind) → failure_kind e ≡ k → (fails e ≡ limit) ⊎ (fails e ≢ limit)
unfolding failure_kind
failure_of_kind e (of_meaning x) h = inr (λ (q : fails e ≡ limit). let f : e ≡ recursion_limit = cc in let g = sym h ∙ ap failure_kind f in cc)
failure_of_kind e of_residual h = inr (λ (q : fails e ≡ limit). let f : e ≡ recursion_limit = cc in let g = sym h ∙ ap failure_kind f in cc)
failure_of_kind e of_limit h = inl (ap fails (kind_of_limit e h))
failure_of_kind e of_memory h = inr (λ (q : fails e ≡ limit). let f : e ≡ recursion_limit = cc in let g = sym h ∙ ap failure_kind f in cc)

limit_or_not : (a : Answer) → (a ≡ limit) ⊎ (a ≢ limit)
limit_or_not (answers p) = inr (answers≢limit p)
limit_or_not (fails e) = failure_of_kind e (failure_kind e) refl

-- ---- runs

module _ (calls : StoredCalls) (mode : ErrorHandling) (s : Setting) (n m : ℕ) (more : n ≤ m) where
  pub run_lasts : (ps : List Policy) (rows : List Row) (errors : List (Text × Failure)) → HaveNoLimit errors → RunOf mode s calls n ps rows errors
      → RunOf mode s calls m ps rows errors
  run_lasts [] rows errors none run = run
  run_lasts (p ∷ ps) rows errors none (a, rest, later, r, found, j, e, f) =
      let k = none_before p.id (error_of (decided a)) later (subst HaveNoLimit f none) in (
        a,
        rest,
        later,
        more_levels (with_slots s p.slots) calls n m p.condition a more r (not_limit a k.0),
        found,
        run_lasts ps rest later k.1 j,
        e,
        f,
      )

  module _ (functional : AreFunctional calls) where
    stays_at : (p : Policy) (a b : Answer) → Runs (with_slots s p.slots) calls n p.condition a → Runs (with_slots s p.slots) calls m p.condition b
        → StaysButForLimit (row_of mode p a) (error_of (decided a)) (row_of mode p b) (error_of (decided b))
    stays_at p a b r q = by (limit_or_not a)
      where
        by : (a ≡ limit) ⊎ (a ≢ limit) → StaysButForLimit (row_of mode p a) (error_of (decided a)) (row_of mode p b) (error_of (decided b))
        by (inl e) = inl (ap (λ (x : Answer). error_of (decided x)) e ∙ limit_error)
        by (inr ne) =
            let z : AreAlike a b = runs_determined (with_slots s p.slots) calls functional m p.condition a b (more_levels (with_slots s p.slots) calls n m p.condition a more r ne) q in
            inr (row_alike mode p a b z, error_alike a b z)

    pub runs_stay : (ps : List Policy) (rows later_rows : List Row) (errors later_errors : List (Text × Failure)) → RunOf mode s calls n ps rows errors
        → RunOf mode s calls m ps later_rows later_errors → StayButForLimits rows errors later_rows later_errors
    runs_stay [] rows later_rows errors later_errors (e, f) (g, h) =
        subst (λ (rs : List Row). StayButForLimits rs errors later_rows later_errors) (sym e)
        (subst (λ (qs : List Row). StayButForLimits [] errors qs later_errors) (sym g) (f, h))
    runs_stay (p ∷ ps) rows later_rows errors later_errors (a, rest, later, r, found, j, e, f) (b, rest', later', r', found', j', e', f') =
        subst (λ (rs : List Row). StayButForLimits rs errors later_rows later_errors) (sym e)
        (subst (λ (qs : List Row). StayButForLimits (row_of mode p a ∷ rest) errors qs later_errors) (sym e') (
          error_of (decided a),
          later,
          error_of (decided b),
          later',
          refl,
          f,
          f',
          stays_at p a b r r',
          runs_stay ps rest rest' later later' j j',
        ))
