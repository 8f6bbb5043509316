-- Each step of a chain, and each chain, has an answer, where the functions that exist answer, and never running out of
-- memory.
use Rattle.std.specs.Prelude.{◌≡◌, ℕ, zero, suc, Bool, true, false, List, [], ◌∷◌, map, Option, Some, None, Result}
use Rattle.std.specs.Prelude.{Ok, Err, MatchBool, MatchResult}
use Rattle.std.proofs.Common.{refl, subst, sym}
use Rattle.cedar_model.specs.Terms.{Text, record_of, Fields}
use Rattle.cedar_model.specs.Values.{Represented}
use Rattle.cedar_model.specs.Failures.{Failure, PartialValue, Answer}
use Rattle.cedar_model.specs.Settings.{ContextPart, absent_context, known_context, residual_context, RequestPart}
use Rattle.cedar_model.specs.Settings.{Setting, Store}
use Rattle.cedar_model.specs.Rules
use Rattle.cedar_model.specs.laws.Levels.{FunctionsAnswer, FunctionsFindMemory}
use Rattle.cedar_model.specs.Policies.{Policy, ErrorHandling}
use Rattle.cedar_model.specs.Responses.{Row, RunOf, row_of, decided, error_of, with_error, with_slots}
use Rattle.cedar_model.specs.Refusals
use Rattle.cedar_model.specs.Refusals.{Refusal, context_fails}
use Rattle.cedar_model.specs.Chains
use Rattle.cedar_model.specs.Chains.{Mapping, Response, ChainStep}
use Rattle.cedar_model.proofs.Total.{total}
use Rattle.cedar_model.proofs.Wanting.{find_memory}
use Rattle.cedar_model.proofs.Configured.{configured_by, in_step}

-- what a record answers is a context, or its error
context_of : (o : Option (List (Text × Represented))) (ps : List (Text × PartialValue))
    → (r : Result ContextPart Refusal) × Refusals.IsContext (Rules.record_of_parts o ps) r
unfolding Rules.record_of_parts
context_of (Some vs) ps = (Ok _, refl)
context_of None ps = (Ok _, refl)

context_by : (p : Result (List (Text × PartialValue)) Failure)
    → (r : Result ContextPart Refusal) × Refusals.IsContext (Rules.record_answer p) r
unfolding Rules.record_answer
context_by (Err e) = (Err (context_fails e), refl)
context_by (Ok ps) = context_of (Rules.values_of_field_parts ps) ps

module _ (calls : Rules.StoredCalls) (finding : FunctionsFindMemory calls) where
  runs_context : (s : Setting) (n : ℕ) (fs : Fields) (a : Answer) → Rules.Runs s calls n (record_of fs) a
      → (r : Result ContextPart Refusal) × Refusals.IsContext a r
  runs_context s zero fs a h =
      subst (λ x. (r : Result ContextPart Refusal) × Refusals.IsContext x r) (sym h) (Err _, refl)
  runs_context s (suc n) fs a (p, g, h) =
      subst (λ x. (r : Result ContextPart Refusal) × Refusals.IsContext x r) (sym h) (context_by p)

  pub run_answers : (mode : ErrorHandling) (s : Setting) (n : ℕ) → FunctionsAnswer calls s.extensions.arity
      → (ps : List Policy) → (rows : List Row) × (errors : List (Text × Failure)) × RunOf mode s calls n ps rows errors
  run_answers mode s n callable [] = ([], [], (refl, refl))
  run_answers mode s n callable (p ∷ ps) =
      let a = total (with_slots s p.slots) calls callable n p.condition in
      let k = run_answers mode s n callable ps in (
        row_of mode p a.0 ∷ k.0,
        with_error p.id (error_of (decided a.0)) k.1,
        (
          a.0,
          k.0,
          k.1,
          a.1,
          find_memory (with_slots s p.slots) calls finding n p.condition a.0 a.1,
          k.2,
          refl,
          refl,
        ),
      )

  module _ (mode : ErrorHandling) (s : Setting) (n : ℕ) (callable : FunctionsAnswer calls s.extensions.arity) where
    module _ (m : Mapping) (store : Store) (old : Response) where
      abbrev Answered : (Result Response Refusal → Type 0) → Type 0
      Answered P = (x : Result Response Refusal) × P x

      context_answers : (c : ContextPart) → (r : Result ContextPart Refusal)
          × Chains.SubstitutesTo (Chains.at_step s.extensions s.resolution old.request store m) calls n m c r
      context_answers absent_context = (Ok absent_context, refl)
      context_answers (known_context fs) = (Ok (known_context fs), refl)
      context_answers (residual_context fs) =
          let a =
          total (Chains.without_map (Chains.at_step s.extensions s.resolution old.request store m)) calls callable n
          (record_of (Chains.substituted_at m fs)) in
          let k =
          runs_context (Chains.without_map (Chains.at_step s.extensions s.resolution old.request store m)) n
          (Chains.substituted_at m fs) a.0
          a.1 in
          (k.0, (a.0, a.1, k.1))

      after_context : (r : RequestPart) (c : Result ContextPart Refusal)
          → Answered (Chains.AfterContext (configured_by calls mode s n) m store old r c)
      after_context r (Err e) = (Err e, refl)
      after_context r (Ok c) =
          let k =
          run_answers mode (Chains.at_step s.extensions s.resolution (Chains.with_context r c) store m) n callable
          (Chains.all_residuals old.rows) in
          (_, (k.0, k.1, k.2, refl))

      after_request : (r : Result RequestPart Refusal) → Answered
          (Chains.AfterRequest (configured_by calls mode s n) m store old r)
      after_request (Err e) = (Err e, refl)
      after_request (Ok r) =
          let c = context_answers r.context_part in
          let k = after_context r c.0 in
          (k.0, (c.0, c.1, k.1))

      after_ids : (o : Option Text) → Answered (Chains.AfterIds (configured_by calls mode s n) m store old o)
      after_ids (Some id) = (Err (Refusals.id_comes_again id), refl)
      after_ids None = after_request (Refusals.concrete_request m old.request)

      after_mode : (b : Bool) → Answered (Chains.AfterMode (configured_by calls mode s n) m store old b)
      after_mode true = after_ids (Refusals.first_repeated (map (λ p. p.id) (Chains.all_residuals old.rows)))
      after_mode false = (Err (Refusals.mode_is_other old.mode mode), refl)

      pub step_answers : Answered (Chains.Steps (configured_by calls mode s n) m store old)
      step_answers = after_mode (Chains.is_same_mode mode old.mode)

  module _ (mode : ErrorHandling) (s : Setting) (n : ℕ) (callable : FunctionsAnswer calls s.extensions.arity) where
    abbrev Rest : List ChainStep → Result Response Refusal → Result Response Refusal → Type 0
    Rest steps y x = MatchResult y (λ next. Chains.ChainAnswers (configured_by calls mode s n) next steps x)
        (λ e. x ≡ Err e)

    answered_rest : (steps : List ChainStep) → ((r : Response) → (x : Result Response Refusal)
        × Chains.ChainAnswers (configured_by calls mode s n) r steps x) → (y : Result Response Refusal)
        → (x : Result Response Refusal) × Rest steps y x
    answered_rest steps go (Ok next) = go next
    answered_rest steps go (Err e) = (Err e, refl)

    answered_by : (step : ChainStep) (steps : List ChainStep) (r : Response)
        → ((q : Response) → (x : Result Response Refusal) × Chains.ChainAnswers
        (configured_by calls mode s n) q steps x) → (b : Bool)
        → (x : Result Response Refusal) × MatchBool b (x ≡ Ok r) ((y : Result Response Refusal)
        × Chains.Steps (configured_by calls mode (in_step s step) n) step.mapping step.store r y × Rest steps y x)
    answered_by step steps r go true = (Ok r, refl)
    answered_by step steps r go false =
        let y = step_answers mode (in_step s step) n callable step.mapping step.store r in
        let k = answered_rest steps go y.0 in
        (k.0, (y.0, y.1, k.1))

    pub chain_answers : (steps : List ChainStep) (r : Response)
        → (x : Result Response Refusal) × Chains.ChainAnswers (configured_by calls mode s n) r steps x
    chain_answers [] r = (Ok r, refl)
    chain_answers (step ∷ steps) r = answered_by step steps r (chain_answers steps) (Chains.has_limit r.errors)
