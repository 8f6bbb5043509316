-- A chain, step by step, and the headline.
use Rattle.std.specs.Prelude.{◌≡◌, ℕ, true, false, List, [], ◌∷◌, Option, Some, None, option_map, IfSome, IfOk, MatchBool, MatchResult, Result, Ok, Err}
use Rattle.std.proofs.Common.{refl, sym, ap, ◌∙◌, subst}
use Rattle.cedar_model.specs.Configurations.{Configuration, resolving}
use Rattle.cedar_model.specs.Headline.{Premises}
use Rattle.cedar_model.specs.Settings.{Setting}
use Rattle.cedar_model.specs.Rules.{StoredCalls}
use Rattle.cedar_model.specs.Policies.{Policy, ErrorHandling}
use Rattle.cedar_model.specs.Responses.{AreConditions, RunOf}
use Rattle.cedar_model.specs.Refusals.{Refusal}
use Rattle.cedar_model.specs.Chains.{ChainStep, Response, without_map, has_limit, Begins, Steps, ChainAnswers}
use Rattle.cedar_model.proofs.Bounds as bounds
use Rattle.cedar_model.proofs.Chaining as chaining
use Rattle.cedar_model.proofs.Concrete as concrete
use Rattle.cedar_model.proofs.Configured.{configured_by}
use Rattle.cedar_requests.specs.Requests.{request_view}
use Rattle.cedar_authorizer.specs.declared.responses.partial_response.PartialResponse.{PartialResponse}
use Rattle.cedar_authorizer.specs.responses.Rows.{rows_view}
use Rattle.cedar_authorizer.specs.declared.reauthorization.err.ReauthorizationError.{ReauthorizationError}
use Rattle.cedar_authorizer.specs.Headline.{LeadsTo, IsTakenFurther, IsHeadline, LeavesNothing, IsChain}
use Rattle.cedar_authorizer.specs.Running.{errors_of, request_of, IsRun}
use Rattle.cedar_authorizer.specs.Steps.{step_answer, response_said, Says, IsStep}
use Rattle.cedar_authorizer.proofs.Left.{none_left}
use Rattle.cedar_authorizer.proofs.Runs.{run_known}
use Rattle.cedar_authorizer.proofs.Same.{same_carried, same_step, none_residual}
use Rattle.cedar_authorizer.proofs.Stepped.{same_rows, stand_sorted}

module _ (c : Configuration) (first : Response) (all : List ChainStep) where
  -- steps were taken up to this response, which the model's says, and these are left: what they lead to is what all of
  -- them lead to
  pub record IsOnTheWay (left : List ChainStep) (r : PartialResponse) : Type 0 where
    pub now : Response
    pub says : Says r now
    pub leads : (x : Result Response Refusal) → ChainAnswers c now left x → ChainAnswers c first all x

  stops_here : (step : ChainStep) (left : List ChainStep) (r : PartialResponse) → IsOnTheWay (step ∷ left) r → has_limit (errors_of r) ≡ true → LeadsTo c all first (Ok r)
  stops_here step left r way e =
      let met : has_limit way.now.errors ≡ true = ap has_limit way.says.errors_are ∙ e in (
        way.now,
        way.leads (Ok way.now) (subst (λ b. MatchBool b (◌≡◌ {A = Result Response Refusal} (Ok way.now) (Ok way.now)) ((y : Result Response Refusal) × Steps (resolving step.resolution c) step.mapping step.store way.now y
            × MatchResult y (λ next. ChainAnswers c next left (Ok way.now)) (λ x. ◌≡◌ {A = Result Response Refusal} (Ok way.now) (Err x)))) (sym met) refl),
        way.says,
      )

  ends_here : (left : List ChainStep) (r : PartialResponse) → left ≡ [] → IsOnTheWay left r → LeadsTo c all first (Ok r)
  ends_here left r e way = (way.now, way.leads (Ok way.now) (subst (λ l. ChainAnswers c way.now l (Ok way.now)) (sym e) refl), way.says)

  -- ---- a step more

  module _ (step : ChainStep) (left : List ChainStep) (r : PartialResponse) (way : IsOnTheWay (step ∷ left) r) (quiet : has_limit (errors_of r) ≡ false) where
    from_now : (x : Result Response Refusal) → Steps (resolving step.resolution c) step.mapping step.store (response_said r) x → Steps (resolving step.resolution c) step.mapping step.store way.now x
    from_now x h =
        same_step (resolving step.resolution c) step.mapping step.store (response_said r) way.now (sym way.says.mode_is) (sym way.says.request_is)
        (same_carried way.now.rows (rows_view r) (same_rows way.now.rows r way.says.held)) x h

    by_step : (x : Result Response Refusal) → (y : Result Response Refusal) × Steps (resolving step.resolution c) step.mapping step.store way.now y
        × MatchResult y (λ next. ChainAnswers c next left x) (λ e. x ≡ Err e) → ChainAnswers c way.now (step ∷ left) x
    by_step x h =
        subst (λ b. MatchBool b (x ≡ Ok way.now) ((y : Result Response Refusal) × Steps (resolving step.resolution c) step.mapping step.store way.now y
        × MatchResult y (λ next. ChainAnswers c next left x) (λ e. x ≡ Err e))) (sym (ap has_limit way.says.errors_are ∙ quiet)) h

    one_step_more : (n : PartialResponse) → IsStep (resolving step.resolution c) (step.mapping, step.store) (response_said r) (Ok n) → IsOnTheWay left n
    one_step_more n (new, taken_to, says) = record {
      now = new;
      says = says;
      leads = λ x h. way.leads x (by_step x (Ok new, from_now (Ok new) taken_to, h));
    }

    step_is_refused : (e : Refusal) → IsStep (resolving step.resolution c) (step.mapping, step.store) (response_said r) (Err e) → LeadsTo c all first (Err e)
    step_is_refused e h = way.leads (Err e) (by_step (Err e) (Err e, from_now (Err e) h, refl))

-- ---- taken further from a response, whatever was given before it

module _ (c : Configuration) (begun : PartialResponse) (all : List ChainStep) where
  abbrev pub AreTaken : List ChainStep → PartialResponse → Type 0
  AreTaken left r = (first : Response) → Says begun first → IsOnTheWay c first all left r

  pub none_taken : AreTaken all begun
  none_taken first says = record { now = first; says = says; leads = λ x h. h }

  pub ends_with : (left : List ChainStep) (r : PartialResponse) → left ≡ [] → AreTaken left r → IsTakenFurther c all begun (Ok r)
  ends_with left r e taken first says = ends_here c first all left r e (taken first says)

  module _ (step : ChainStep) (left : List ChainStep) (r : PartialResponse) (taken : AreTaken (step ∷ left) r) where
    pub stops_with : has_limit (errors_of r) ≡ true → IsTakenFurther c all begun (Ok r)
    stops_with e first says = stops_here c first all step left r (taken first says) e

    module _ (quiet : has_limit (errors_of r) ≡ false) where
      pub one_taken : (n : PartialResponse) → IsStep (resolving step.resolution c) (step.mapping, step.store) (response_said r) (Ok n) → AreTaken left n
      one_taken n h first says = one_step_more c first all step left r (taken first says) quiet n h

      pub refused_with : (o : Option Refusal) → IfSome (option_map {U = Result PartialResponse Refusal} Err o) (IsStep (resolving step.resolution c) (step.mapping, step.store) (response_said r)) → IfSome (option_map {U = Result PartialResponse Refusal} Err o) (IsTakenFurther c all begun)
      refused_with None h = tt
      refused_with (Some e) h = λ first says. step_is_refused c first all step left r (taken first says) quiet e h

-- ---- a chain, from the first response

module _ (mode : ErrorHandling) (calls : StoredCalls) (levels : ℕ) (s : Setting) (unmapped : without_map s ≡ s) (ps : List Policy) (steps : List ChainStep) (r : PartialResponse)
    (run : IsRun (configured_by calls mode s levels) s ps r) (asked : request_view (request_of r) ≡ s.request) where
  pub chain_of : (o : Option (Result PartialResponse Refusal)) → IfSome o (IsTakenFurther (configured_by calls mode s levels) steps r) → IfSome o (IsChain (configured_by calls mode s levels) s ps steps)
  chain_of None h = tt
  chain_of (Some x) h =
      let first : Response = record { mode = mode; request = s.request; rows = run.rows; errors = errors_of r } in
      let begins : Begins (configured_by calls mode s levels) s.request s.store ps first = record {
        mode_is = refl;
        request_is = refl;
        runs = subst (λ (z : Setting). RunOf mode z calls levels ps run.rows (errors_of r)) (sym unmapped) run.run;
      } in
      (first, begins, h first record { mode_is = sym run.mode_is; request_is = sym asked; errors_are = refl; held = run.held })

-- ---- what follows of a chain

module _ (mode : ErrorHandling) (s : Setting) (calls : StoredCalls) (levels : ℕ) (ps : List Policy) (all : List ChainStep) where
  abbrev by_all : Configuration
  by_all = configured_by calls mode s levels

  pub chain_headline : (r : PartialResponse) → AreConditions ps → IsChain by_all s ps all (Ok r) → IsHeadline by_all s ps all r
  chain_headline r conditions (first, begins, (last, chain, says)) ans w p =
      let h = chaining.headline mode calls s levels ps all first last conditions begins chain ans w
      (subst (Premises by_all s.request s.store ps all ans w) (sym says.errors_are) p) in
      let stands = stand_sorted mode s.extensions ans w ps last.rows r says.held h.stands in
      record {
        stands = stands;
        holds = bounds.reports_hold mode s.extensions ans w ps (rows_view r) stands;
        defined = λ none. concrete.concrete_is_defined mode s.extensions ans w ps (rows_view r) stands none;
      }

  chain_known : (r : PartialResponse) → without_map s ≡ s → IsChain by_all s ps all (Ok r) → LeavesNothing by_all s ps r
  chain_known r same (first, begins, (last, chain, says)) known ans agree k =
      let run : RunOf mode s calls levels ps first.rows first.errors = subst (λ (z : Setting). RunOf mode z calls levels ps first.rows first.errors) same begins.runs in
      let none = run_known mode s calls levels known ans agree ps first.rows first.errors k run in
      none_residual last.rows (rows_view r) (same_rows last.rows r says.held) (none_left mode s calls levels all first last chain none)

  pub chain_headlines : (x : Result PartialResponse ReauthorizationError) → AreConditions ps → IfSome (step_answer x) (IsChain by_all s ps all) → IfOk x (IsHeadline by_all s ps all)
  chain_headlines (Ok r) conditions h = chain_headline r conditions h
  chain_headlines (Err e) conditions h = tt

  pub chains_known : (x : Result PartialResponse ReauthorizationError) → without_map s ≡ s → IfSome (step_answer x) (IsChain by_all s ps all) → IfOk x (LeavesNothing by_all s ps)
  chains_known (Ok r) same h = chain_known r same h
  chains_known (Err e) same h = tt
