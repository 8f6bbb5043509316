-- A chain goes on by one step more.
use Rattle.std.specs.Prelude.{◌≡◌, ℕ, Bool, List, [], ◌∷◌, ◌++◌, Result, Ok, Err, MatchBool, MatchResult}
use Rattle.std.proofs.Common.{refl, sym, subst}
use Rattle.cedar_model.specs.Policies.{ErrorHandling}
use Rattle.cedar_model.specs.Settings.{Setting}
use Rattle.cedar_model.specs.Rules.{StoredCalls}
use Rattle.cedar_model.specs.Refusals.{Refusal}
use Rattle.cedar_model.specs.Chains.{ChainStep, Response, Steps, ChainAnswers}
use Rattle.cedar_model.specs.Authorizations.{HaveNoLimit}
use Rattle.cedar_model.proofs.Configured.{configured_by, in_step}
use Rattle.cedar_model.proofs.Limits.{goes_on, has_none}
use Rattle.cedar_model.proofs.Injections.{ok_inj}

module _ (mode : ErrorHandling) (s : Setting) (calls : StoredCalls) (levels : ℕ) where
  abbrev Answers : Response → List ChainStep → Result Response Refusal → Type 0
  Answers = ChainAnswers (configured_by calls mode s levels)

  -- it ends here with the limit, or goes on by a step
  abbrev EndsOrAnswers : Bool → Response → ChainStep → List ChainStep → Result Response Refusal → Type 0
  EndsOrAnswers b r step steps x =
      MatchBool b (x ≡ Ok r) ((y : Result Response Refusal)
      × Steps (configured_by calls mode (in_step s step) levels) step.mapping step.store r y
      × MatchResult y (λ next. Answers next steps x) (λ e. x ≡ Err e))

  answers_by : (r : Response) (step : ChainStep) (steps : List ChainStep) (x : Result Response Refusal) → HaveNoLimit r.errors
      → (y : Result Response Refusal) × Steps (configured_by calls mode (in_step s step) levels) step.mapping step.store r y
      × MatchResult y (λ next. Answers next steps x) (λ e. x ≡ Err e) → Answers r (step ∷ steps) x
  answers_by r step steps x none h = subst (λ b. EndsOrAnswers b r step steps x) (sym (has_none r.errors none)) h

  last_step : (r : Response) (step : ChainStep) (x : Result Response Refusal) → HaveNoLimit r.errors
      → Steps (configured_by calls mode (in_step s step) levels) step.mapping step.store r x → Answers r (step ∷ []) x
  last_step r step (Ok next) none h = answers_by r step [] (Ok next) none (Ok next, h, refl)
  last_step r step (Err e) none h = answers_by r step [] (Err e) none (Err e, h, refl)

  pub one_step_more : (first last : Response) (steps : List ChainStep) (step : ChainStep) (x : Result Response Refusal) → Answers first steps (Ok last)
      → HaveNoLimit last.errors → Steps (configured_by calls mode (in_step s step) levels) step.mapping step.store last x
      → Answers first (steps ++ step ∷ []) x
  one_step_more first last [] step x chain none h =
      last_step first step x (subst (λ (r : Response). HaveNoLimit r.errors) (ok_inj chain) none)
      (subst (λ (r : Response). Steps (configured_by calls mode (in_step s step) levels) step.mapping step.store r x) (ok_inj chain) h)
  one_step_more first last (before ∷ steps) step x chain none h =
      let g = goes_on mode s calls levels first last before steps chain none in
      answers_by first before (steps ++ step ∷ []) x g.0 (Ok g.1.0, g.1.1, one_step_more g.1.0 last steps step x g.1.2 none h)
