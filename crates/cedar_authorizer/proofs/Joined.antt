-- A step, joined of its parts: the policies that are carried on, the request that the map makes, and the run.
use Rattle.std.specs.Prelude.{◌≡◌, ℕ, true, List, map, Option, Some, None, option_map, IfSome, Result, Ok, Err}
use Rattle.std.proofs.Common.{refl, sym, ap, subst}
use Rattle.cedar_model.specs.Terms.{Text}
use Rattle.cedar_model.specs.Failures.{Failure}
use Rattle.cedar_model.specs.Settings.{RequestPart, Store, Setting}
use Rattle.cedar_model.specs.Rules.{StoredCalls}
use Rattle.cedar_model.specs.Policies.{Policy, ErrorHandling}
use Rattle.cedar_model.specs.Responses.{Row, RunOf}
use Rattle.cedar_model.specs.Refusals.{Refusal, id_comes_again, first_repeated, concrete_request}
use Rattle.cedar_model.specs.Chains.{Mapping, Response, all_residuals, at_step, with_context, is_same_mode, AfterRequest, AfterIds, AfterMode, Steps}
use Rattle.cedar_requests.specs.declared.request.Request.{Request}
use Rattle.cedar_requests.specs.Requests.{request_view}
use Rattle.cedar_authorizer.specs.declared.responses.partial_response.PartialResponse.{PartialResponse}
use Rattle.cedar_authorizer.specs.responses.Responses.{errors_view}
use Rattle.cedar_authorizer.specs.responses.Rows.{mode_of}
use Rattle.cedar_authorizer.specs.declared.reauthorization.err.ConcretizationError.{ConcretizationError}
use Rattle.cedar_authorizer.specs.declared.reauthorization.err.ReauthorizationError.{ReauthorizationError}
use Rattle.cedar_authorizer.specs.declared.reauthorization.err.ReauthorizationError.TheVariants as reauthorizations
use Rattle.std.specs.declared.alloc.AllocError.{AllocError}
use Rattle.cedar_authorizer.specs.reauthorization.Errors.{refusal_of, step_refusal, IsRequestRefusal, IsUnwrapped}
use Rattle.cedar_authorizer.specs.reauthorization.Concretizations.{AfterMap, IsConcrete}
use Rattle.cedar_authorizer.specs.reauthorization.Policies.{unless_repeated, all_once}
use Rattle.cedar_authorizer.specs.Running.{IsRun}
use Rattle.cedar_authorizer.specs.Steps.{response_said, IsDecidedAgain, IsStep}
use Rattle.cedar_model.proofs.Configured.{configured_by}
use Rattle.cedar_model.proofs.Injections.{ok_inj, err_inj, err_is_not_ok}

-- ---- the policies

once : (o : Option Text) (ps qs : List Policy) → Ok qs ≡ unless_repeated o ps → (o ≡ None) × (ps ≡ qs)
once None ps qs e = (refl, sym (ok_inj e))
once (Some id) ps qs e = absurd (err_is_not_ok (sym e))

twice : (o : Option Text) (ps : List Policy) (x : Refusal) → Err x ≡ unless_repeated o ps → (id : Text) × (o ≡ Some id) × (x ≡ id_comes_again id)
twice None ps x e = absurd (err_is_not_ok e)
twice (Some id) ps x e = (id, refl, err_inj e)

-- ---- the steps of the model

module _ (mode : ErrorHandling) (s : Setting) (calls : StoredCalls) (levels : ℕ) (m : Mapping) (store : Store) (r : PartialResponse) (same_mode : is_same_mode mode (mode_of r) ≡ true) where
  abbrev old : Response
  old = response_said r

  abbrev policies : List Policy
  policies = all_residuals old.rows

  abbrev repeated : Option Text
  repeated = first_repeated (map (λ p. p.id) policies)

  after_mode : (x : Result Response Refusal) → AfterIds (configured_by calls mode s levels) m store old repeated x → Steps (configured_by calls mode s levels) m store old x
  after_mode x h = subst (λ b. AfterMode (configured_by calls mode s levels) m store old b x) (sym same_mode) h

  after_ids : (x : Result Response Refusal) → repeated ≡ None → AfterRequest (configured_by calls mode s levels) m store old (concrete_request m old.request) x → Steps (configured_by calls mode s levels) m store old x
  after_ids x e h = after_mode x (subst (λ o. AfterIds (configured_by calls mode s levels) m store old o x) (sym e) h)

  -- a repeated id is refused
  pub refused_policies : (o : Option Refusal) → IfSome (option_map {U = Result (List Policy) Refusal} Err o) (λ a. a ≡ all_once policies) → IfSome (option_map {U = Result PartialResponse Refusal} Err o) (IsStep (configured_by calls mode s levels) (m, store) old)
  refused_policies None h = tt
  refused_policies (Some x) h =
      let t = twice repeated policies x h in
      after_mode (Err x) (subst (λ o. AfterIds (configured_by calls mode s levels) m store old o (Err x)) (sym t.1) (ap Err t.2))

  -- the request and the run
  run_after : (q : Result RequestPart Refusal) (request : RequestPart) (rows : List Row) (errors : List (Text × Failure)) → AfterMap (at_step s.extensions s.resolution old.request store m) calls levels m q (Ok request)
      → RunOf mode (at_step s.extensions s.resolution request store m) calls levels policies rows errors
      → AfterRequest (configured_by calls mode s levels) m store old q (Ok record { mode = mode; request = request; rows = rows; errors = errors })
  run_after (Err e) request rows errors h run = absurd (err_is_not_ok (sym h))
  run_after (Ok q) request rows errors (Ok c, g, e) run =
      let same : request ≡ with_context q c = ok_inj e in
      (Ok c, g, (rows, errors, subst (λ x. RunOf mode (at_step s.extensions s.resolution x store m) calls levels policies rows errors) same run, ap (λ x. Ok record { mode = mode; request = x; rows = rows; errors = errors }) same))
  run_after (Ok q) request rows errors (Err f, g, e) run = absurd (err_is_not_ok (sym e))

  refused_after : (q : Result RequestPart Refusal) (x : Refusal) → AfterMap (at_step s.extensions s.resolution old.request store m) calls levels m q (Err x) → AfterRequest (configured_by calls mode s levels) m store old q (Err x)
  refused_after (Err e) x h = ap Err (err_inj h)
  refused_after (Ok q) x (Ok c, g, e) = absurd (err_is_not_ok e)
  refused_after (Ok q) x (Err f, g, e) = (Err f, g, ap Err (err_inj e))

  taken_by : (n : PartialResponse) → repeated ≡ None → IsConcrete (at_step s.extensions s.resolution old.request store m) calls levels m old.request (Ok (request_view n.request.value))
      → IsRun (configured_by calls mode s levels) (at_step s.extensions s.resolution (request_view n.request.value) store m) policies n → IsStep (configured_by calls mode s levels) (m, store) old (Ok n)
  taken_by n e concrete run =
      let request = request_view n.request.value in
      let errors = errors_view n.errors.items in (
        record { mode = mode; request = request; rows = run.rows; errors = errors },
        after_ids (Ok record { mode = mode; request = request; rows = run.rows; errors = errors }) e (run_after (concrete_request m old.request) request run.rows errors concrete run.run),
        record { mode_is = sym run.mode_is; request_is = refl; errors_are = refl; held = run.held },
      )

  -- what is decided again is a step
  pub answered_step : (set : List Policy) (o : Option (Result PartialResponse Refusal)) → Ok set ≡ all_once policies → IfSome o (IsDecidedAgain (configured_by calls mode s levels) (m, store) old.request set) → IfSome o (IsStep (configured_by calls mode s levels) (m, store) old)
  answered_step set None e h = tt
  answered_step set (Some (Ok n)) e h =
      let k = once repeated policies set e in
      taken_by n k.0 h.0 (subst (λ ps. IsRun (configured_by calls mode s levels) (at_step s.extensions s.resolution (request_view n.request.value) store m) ps n) (sym k.1) h.1)
  answered_step set (Some (Err x)) e h =
      after_ids (Err x) (once repeated policies set e).0 (refused_after (concrete_request m old.request) x h)

-- what is decided of the request that the map makes
pub decided_request : (mode : ErrorHandling) (s : Setting) (calls : StoredCalls) (levels : ℕ) (m : Mapping) (store : Store) (old : RequestPart) (ps : List Policy) (r : PartialResponse) (request : Request) → r.request.value ≡ request
    → IsConcrete (at_step s.extensions s.resolution old store m) calls levels m old (Ok (request_view request)) → IsRun (configured_by calls mode s levels) (at_step s.extensions s.resolution (request_view request) store m) ps r → IsDecidedAgain (configured_by calls mode s levels) (m, store) old ps (Ok r)
decided_request mode s calls levels m store old ps r request e concrete run = (
  subst (λ q. IsConcrete (at_step s.extensions s.resolution old store m) calls levels m old (Ok (request_view q))) (sym e) concrete,
  subst (λ q. IsRun (configured_by calls mode s levels) (at_step s.extensions s.resolution (request_view q) store m) ps r) (sym e) run,
)

-- ---- the error of a request

pub refused_request : {A B : Type 0} (P : Result A Refusal → Type 0) (Q : Result B Refusal → Type 0) → ((x : Refusal) → P (Err x) → Q (Err x)) → (e : ConcretizationError) (r : ReauthorizationError) → IsRequestRefusal e r
    → IfSome (option_map {U = Result A Refusal} Err (refusal_of e)) P → IfSome (option_map {U = Result B Refusal} Err (step_refusal r)) Q
refused_request {A} {B} P Q k e (reauthorizations.ErrorHandlingConflict o a) is h = absurd is
refused_request {A} {B} P Q k e (reauthorizations.PolicySetError p) is h = absurd is
refused_request {A} {B} P Q k e (reauthorizations.ConcretizationError f) is h =
    by (refusal_of f) (subst (λ x. IfSome (option_map {U = Result A Refusal} Err (refusal_of x)) P) (sym is.0) h)
  where
    by : (o : Option Refusal) → IfSome (option_map {U = Result A Refusal} Err o) P → IfSome (option_map {U = Result B Refusal} Err o) Q
    by None h = tt
    by (Some x) h = k x h
refused_request {A} {B} P Q k e (reauthorizations.Memory p) is h = tt

-- running out of memory stands alone
pub memory_unwrapped : (x : AllocError) (r : ReauthorizationError) → r ≡ reauthorizations.Memory x → IsUnwrapped r
memory_unwrapped x r e = subst IsUnwrapped (sym e) tt
