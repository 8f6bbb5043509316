-- The recursion limit in a chain: it ends at the first response that holds it.
use Rattle.std.specs.Prelude.{◌≡◌, ℕ, Bool, true, false, List, [], ◌∷◌, ◌++◌, Result, Ok, Err, MatchBool}
use Rattle.std.specs.Prelude.{MatchResult}
use Rattle.std.proofs.Common.{refl, sym, ap, ◌∙◌, subst}
use Rattle.std.proofs.lemmas.Bool.{or_parts, or_from, false_from_ne_true}
use Rattle.cedar_model.specs.Terms.{Text}
use Rattle.cedar_model.specs.Failures.{Failure, recursion_limit, FailureKind, of_meaning, of_residual, of_limit}
use Rattle.cedar_model.specs.Failures.{of_memory, failure_kind}
use Rattle.cedar_model.specs.Policies.{ErrorHandling}
use Rattle.cedar_model.specs.Settings.{Setting}
use Rattle.cedar_model.specs.Rules.{StoredCalls}
use Rattle.cedar_model.specs.Refusals.{Refusal}
use Rattle.cedar_model.specs.Chains
use Rattle.cedar_model.specs.Chains.{ChainStep, Response}
use Rattle.cedar_model.specs.Authorizations.{HaveNoLimit}
use Rattle.cedar_model.proofs.Determined.{kind_of_limit}
use Rattle.cedar_model.proofs.Configured.{configured_by, in_step}
use Rattle.cedar_model.proofs.Injections.{ok_inj, ok_is_not_err, true_is_not_false}

-- ---- the test

limit_kind : (k : FailureKind) → Chains.is_limit k ≡ true → k ≡ of_limit
unfolding Chains.is_limit
limit_kind (of_meaning j) h = absurd (cc)
limit_kind of_residual h = absurd (cc)
limit_kind of_limit h = refl
limit_kind of_memory h = absurd (cc)

limit_is : Chains.is_limit (failure_kind recursion_limit) ≡ true
unfolding Chains.is_limit failure_kind
limit_is = refl

pub has_none : (errors : List (Text × Failure)) → HaveNoLimit errors → Chains.has_limit errors ≡ false
unfolding Chains.has_limit
has_none [] h = refl
has_none (e ∷ es) h =
    or_from (Chains.is_limit (failure_kind e.1)) (Chains.has_limit es)
    (false_from_ne_true (Chains.is_limit (failure_kind e.1))
    (λ k. h.0 (kind_of_limit e.1 (limit_kind (failure_kind e.1) k)))) (has_none es h.1)

pub none_has : (errors : List (Text × Failure)) → Chains.has_limit errors ≡ false → HaveNoLimit errors
unfolding Chains.has_limit
none_has [] h = tt
none_has (e ∷ es) h = (
  λ k. true_is_not_false (ap (λ x. Chains.is_limit (failure_kind x)) k ∙ limit_is)
      (or_parts (Chains.is_limit (failure_kind e.1)) (Chains.has_limit es) h).0,
  none_has es (or_parts (Chains.is_limit (failure_kind e.1)) (Chains.has_limit es) h).1,
)

-- ---- a chain

module _ (mode : ErrorHandling) (s : Setting) (calls : StoredCalls) (levels : ℕ) where
  abbrev Chain : Response → List ChainStep → Response → Type 0
  Chain = Chains.ChainOf (configured_by calls mode s levels)

  -- it ends here with the limit, or goes on with a response without one
  abbrev EndsOrSteps : Bool → Response → ChainStep → List ChainStep → Response → Type 0
  EndsOrSteps b r step steps last =
      MatchBool b (◌≡◌ {A = Result Response Refusal} (Ok last) (Ok r)) ((y : Result Response Refusal)
      × Chains.Steps (configured_by calls mode (in_step s step) levels) step.mapping step.store r y
      × MatchResult y (λ next. Chain next steps last) (λ e. ◌≡◌ {A = Result Response Refusal} (Ok last) (Err e)))

  -- a chain whose last response holds no limit goes on by the step
  pub goes_on : (r last : Response) (step : ChainStep) (steps : List ChainStep)
      → Chain r (step ∷ steps) last → HaveNoLimit last.errors → HaveNoLimit r.errors
      × ((next : Response) × Chains.StepsTo (configured_by calls mode (in_step s step) levels) step.mapping step.store r next
      × Chain next steps last)
  goes_on r last step steps h none = by (Chains.has_limit r.errors) refl h
    where
      on : (y : Result Response Refusal) → Chains.Steps (configured_by calls mode (in_step s step) levels) step.mapping step.store r y
          → MatchResult y (λ next. Chain next steps last) (λ e. ◌≡◌ {A = Result Response Refusal} (Ok last) (Err e))
          → (next : Response) × Chains.StepsTo (configured_by calls mode (in_step s step) levels) step.mapping step.store r next
          × Chain next steps last
      on (Ok next) g k = (next, g, k)
      on (Err e) g k = absurd (ok_is_not_err k)

      by : (b : Bool) → Chains.has_limit r.errors ≡ b → EndsOrSteps b r step steps last → HaveNoLimit r.errors
          × ((next : Response) × Chains.StepsTo (configured_by calls mode (in_step s step) levels) step.mapping step.store r next
          × Chain next steps last)
      by true e k =
          absurd (true_is_not_false e (has_none r.errors (subst (λ x. HaveNoLimit x.errors) (ok_inj k) none)))
      by false e (y, g, k) = (none_has r.errors e, on y g k)

  -- nor does the first
  pub first_has_none : (r last : Response) (steps : List ChainStep) → Chain r steps last
      → HaveNoLimit last.errors → HaveNoLimit r.errors
  first_has_none r last [] h none = subst (λ x. HaveNoLimit x.errors) (ok_inj h) none
  first_has_none r last (step ∷ steps) h none = (goes_on r last step steps h none).0

  pub no_earlier : (first last : Response) (before after : List ChainStep)
      → Chain first (before ++ after) last → HaveNoLimit last.errors → (middle : Response) × Chain first before middle
      × HaveNoLimit middle.errors × Chain middle after last
  no_earlier first last [] after h none = (first, refl, first_has_none first last after h none, h)
  no_earlier first last (step ∷ before) after h none =
      let g = goes_on first last step (before ++ after) h none in
      let k = no_earlier g.1.0 last before after g.1.2 none in (
        k.0,
        subst (λ b. EndsOrSteps b first step before k.0) (sym (has_none first.errors g.0))
            (Ok g.1.0, g.1.1, k.1),
        k.2,
        k.3,
      )
