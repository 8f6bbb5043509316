-- Where nothing is unknown, answers, decided conditions and responses are exact in the own world.
use Rattle.std.specs.Prelude.{◌≡◌, ◌≢◌, ℕ, ◌≤◌, Bool, true, false, List, [], ◌∷◌, Option, Some, None, Result, Ok, Err}
use Rattle.std.proofs.Common.{refl, sym, ap, ◌∙◌, subst, arith}
use Rattle.cedar_model.specs.Terms.{Text, bool_literal, long_literal, text_literal, entity_literal, Term}
use Rattle.cedar_model.specs.Values.{AbstractValue, plain, set_value, record_value, extension_value, Represented}
use Rattle.cedar_model.specs.Values.{abstract_value}
use Rattle.cedar_model.specs.Outcomes
use Rattle.cedar_model.specs.Outcomes.{ErrorKind, Outcome, gives, errs, bool_of}
use Rattle.cedar_model.specs.World.{World, Slots, Extensions, Functions}
use Rattle.cedar_model.specs.Meaning.{meaning}
use Rattle.cedar_model.specs.Failures.{Failure, recursion_limit, FailureKind, of_meaning, of_residual, of_limit}
use Rattle.cedar_model.specs.Failures.{of_memory, failure_kind, PartialValue, value, residual, Answer, answers, fails}
use Rattle.cedar_model.specs.Failures.{limit}
use Rattle.cedar_model.specs.Settings.{ContextPart, absent_context, known_context, residual_context, Setting}
use Rattle.cedar_model.specs.Rules.{StoredCalls, Runs, Exceeds}
use Rattle.cedar_model.specs.Agreement
use Rattle.cedar_model.specs.Policies
use Rattle.cedar_model.specs.Policies.{Policy, Judged, verdict, judge_each}
use Rattle.cedar_model.specs.Responses
use Rattle.cedar_model.specs.Responses.{with_slots, FitPolicies}
use Rattle.cedar_model.specs.Authorizations
use Rattle.cedar_model.specs.laws.Authorizations.{PolicyRuns}
use Rattle.cedar_model.proofs.Determined.{limit_alone}
use Rattle.cedar_model.proofs.Functional.{functional}
use Rattle.cedar_model.proofs.Known.{allowed_exact, need_below_height}
use Rattle.cedar_model.proofs.OwnWorld.{own_request, own_store}
use Rattle.cedar_model.proofs.Throughout.{known_fits}

-- ---- an answer, as it decides

bool_result_limit : (o : Option Bool) (v : Represented)
    → Responses.result_of (Responses.decided_bool o v) ≡ Err recursion_limit → ⊥
unfolding Responses.decided_bool Responses.result_of
bool_result_limit (Some b) v h = cc
bool_result_limit None v h = cc

decided_limit : (a : Answer) → Authorizations.evaluated a ≡ Err recursion_limit → a ≡ limit
unfolding Responses.decided Responses.result_of
decided_limit (fails e) h = let f : e ≡ recursion_limit = cc in ap fails f
decided_limit (answers (value v)) h = absurd (bool_result_limit (bool_of (abstract_value v)) v h)
decided_limit (answers (residual t)) h = absurd (cc)

limit_decided : (a : Answer) → a ≡ limit → Authorizations.evaluated a ≡ Err recursion_limit
unfolding Responses.decided Responses.result_of
limit_decided a h = ap Authorizations.evaluated h

bool_decides : (o : Option Bool) (v : Represented)
    → Authorizations.Decides (Responses.result_of (Responses.decided_bool o v)) (Authorizations.bool_meaning o)
unfolding Responses.decided_bool Responses.result_of Authorizations.bool_meaning failure_kind
bool_decides (Some b) v = refl
bool_decides None v = refl

failure_decides : (e : Failure) (k : FailureKind) (o : Outcome) → failure_kind e ≡ k → Agreement.FailsAs k o
    → Authorizations.Decides (Err e) (Authorizations.condition_meaning o)
unfolding Authorizations.condition_meaning
failure_decides e (of_meaning j) o h m =
    subst (λ p. Authorizations.Decides (Err e) (Authorizations.condition_meaning p)) (sym m) h
failure_decides e of_residual o h m = absurd m
failure_decides e of_limit o h m = absurd m
failure_decides e of_memory o h m = absurd m

decided_meant : (a : Answer) (o : Outcome) → Agreement.AnswersOutcome a o
    → Authorizations.Decides (Authorizations.evaluated a) (Authorizations.condition_meaning o)
unfolding Responses.decided Responses.result_of Authorizations.condition_meaning
decided_meant (answers (value v)) o h =
    subst (λ p. Authorizations.Decides (Authorizations.evaluated (answers (value v)))
    (Authorizations.condition_meaning p)) (sym h) (bool_decides (bool_of (abstract_value v)) v)
decided_meant (answers (residual t)) o h = absurd h
decided_meant (fails e) o h = failure_decides e (failure_kind e) o refl h

-- ---- one answer

pub known_with_slots : (s : Setting) (slots : Slots) → Agreement.HasNothingUnknown s
    → Agreement.HasNothingUnknown (with_slots s slots)
known_with_slots s slots k = record {
  principal_known = k.principal_known;
  action_known = k.action_known;
  resource_known = k.resource_known;
  context_known = k.context_known;
  store_concrete = k.store_concrete;
  store_known = k.store_known;
}

module _ (calls : StoredCalls) (ans : Functions) (agree : Agreement.AgreesWithFunctions ans calls) (s : Setting)
    (known : Agreement.HasNothingUnknown s) (sigma : Text → AbstractValue) where
  abbrev w : World
  w = Agreement.own_world s sigma

  abbrev M : Term → Outcome
  M t = meaning s.extensions ans w s.slots t

  need_height : (n : ℕ) (t : Term) (a : Answer) → Agreement.IsKnown ans t → Runs s calls n t a → Agreement.height t ≤ n
      → a ≢ limit
  need_height n t a k r h e =
      let below =
      need_below_height ans calls agree w s known (own_request ans s sigma known)
      (own_store ans s sigma known) n t k (subst (Runs s calls n t) e r) in
      absurd (omega arith)

  alone : (n : ℕ) (t : Term) (a : Answer) → Runs s calls n t a → Exceeds s calls t n → a ≡ limit
  alone n t a r e = limit_alone s calls (functional ans calls agree) n t a e r

  meant : (n : ℕ) (t : Term) (a : Answer) → Agreement.IsKnown ans t → Runs s calls n t a → a ≢ limit
      → Agreement.AnswersOutcome a (M t)
  meant n t a k r ne =
      allowed_exact ans calls agree w s known (own_request ans s sigma known) (own_store ans s sigma known) t a k
      (ne, n, r)

  pub answer_exact : (n : ℕ) (t : Term) (a : Answer) → Agreement.IsKnown ans t → Runs s calls n t a
      → Authorizations.IsExact calls ans w s n t a
  answer_exact n t a k r = record {
    limit_by_need = (λ e. subst (Runs s calls n t) e r, λ e. alone n t a r e);
    limit_by_height = λ h. need_height n t a k r h;
    meant = λ ne. meant n t a k r ne;
  }

  pub decision_exact : (n : ℕ) (t : Term) (a : Answer) → Agreement.IsKnown ans t → Runs s calls n t a
      → Authorizations.IsExactDecision calls ans w s n t (Authorizations.evaluated a)
  decision_exact n t a k r = record {
    limit_by_need = (λ e. subst (Runs s calls n t) (decided_limit a e) r, λ e. limit_decided a (alone n t a r e));
    limit_by_height = λ h e. need_height n t a k r h (decided_limit a e);
    meant = λ ne. decided_meant a (M t) (meant n t a k r (λ e. ne (limit_decided a e)));
  }

-- ---- responses

verdict_same : (r : Result Bool Failure) (c : Result Bool ErrorKind) → Authorizations.Decides r c
    → Authorizations.result_verdict r ≡ Authorizations.result_verdict c
unfolding Authorizations.result_verdict
verdict_same (Ok b) (Ok c) h = ap Authorizations.bool_verdict h
verdict_same (Ok b) (Err k) h = absurd h
verdict_same (Err e) (Ok c) h = absurd h
verdict_same (Err e) (Err k) h = refl

pub meaning_verdict : (o : Outcome) → Authorizations.result_verdict (Authorizations.condition_meaning o) ≡ verdict o
unfolding Authorizations.result_verdict Authorizations.condition_meaning Authorizations.bool_meaning
    Authorizations.bool_verdict bool_of verdict
meaning_verdict (gives (plain (bool_literal true))) = refl
meaning_verdict (gives (plain (bool_literal false))) = refl
meaning_verdict (gives (plain (long_literal n))) = refl
meaning_verdict (gives (plain (text_literal t))) = refl
meaning_verdict (gives (plain (entity_literal e))) = refl
meaning_verdict (gives (set_value vs)) = refl
meaning_verdict (gives (record_value fs)) = refl
meaning_verdict (gives (extension_value t k)) = refl
meaning_verdict (errs k) = refl

kinds_same : (id : Text) (r : Result Bool Failure) (c : Result Bool ErrorKind) (es : List (Text × Failure))
    (ks : List (Text × ErrorKind)) → Authorizations.Decides r c → Authorizations.HaveKinds es ks
    → Authorizations.HaveKinds (Responses.with_error id (Authorizations.error_in r) es)
    (Responses.with_error id (Authorizations.error_in c) ks)
unfolding Responses.with_error Authorizations.error_in
kinds_same id (Ok b) (Ok c) es ks d h = h
kinds_same id (Ok b) (Err k) es ks d h = absurd d
kinds_same id (Err e) (Ok c) es ks d h = absurd d
kinds_same id (Err e) (Err k) es ks d h = λ i. (id, d i) ∷ h i

no_limit_now : (id : Text) (r : Result Bool Failure) (es : List (Text × Failure))
    → Authorizations.HaveNoLimit (Responses.with_error id (Authorizations.error_in r) es) → r ≢ Err recursion_limit
unfolding Responses.with_error Authorizations.error_in
no_limit_now id (Ok b) es h e = cc
no_limit_now id (Err x) es h e = let f : x ≡ recursion_limit = cc in h.0 f

no_limit_later : (id : Text) (r : Result Bool Failure) (es : List (Text × Failure))
    → Authorizations.HaveNoLimit (Responses.with_error id (Authorizations.error_in r) es)
    → Authorizations.HaveNoLimit es
unfolding Responses.with_error Authorizations.error_in
no_limit_later id (Ok b) es h = h
no_limit_later id (Err x) es h = h.1

no_limit_with : (id : Text) (r : Result Bool Failure) (es : List (Text × Failure)) → r ≢ Err recursion_limit
    → Authorizations.HaveNoLimit es
    → Authorizations.HaveNoLimit (Responses.with_error id (Authorizations.error_in r) es)
unfolding Responses.with_error Authorizations.error_in
no_limit_with id (Ok b) es n h = h
no_limit_with id (Err x) es n h = (λ e. n (ap Err e), h)

module _ (calls : StoredCalls) (ans : Functions) (agree : Agreement.AgreesWithFunctions ans calls) (s : Setting)
    (known : Agreement.HasNothingUnknown s) (sigma : Text → AbstractValue) (levels : ℕ) where
  abbrev own : World
  own = Agreement.own_world s sigma

  exact_at : (p : Policy) (a : Answer) → Agreement.IsKnown ans p.condition → PolicyRuns s calls levels p a
      → Authorizations.IsExactDecision calls ans own (with_slots s p.slots) levels p.condition
      (Authorizations.evaluated a)
  exact_at p a k r =
      decision_exact calls ans agree (with_slots s p.slots)
      (known_with_slots s p.slots known) sigma levels p.condition a k r

  judged_are : (ps : List Policy) (js : List Judged) (es : List (Text × Failure))
      → Authorizations.HaveKnownConditions ans ps → Authorizations.JudgesEach (PolicyRuns s calls levels) ps js es
      → Authorizations.HaveNoLimit es → (js ≡ judge_each s.extensions ans own ps)
      × Authorizations.HaveKinds es (Authorizations.policy_errors s.extensions ans own ps)
  unfolding Authorizations.policy_errors
  judged_are [] js es k (e, f) n = (e, ap Authorizations.failure_kinds f)
  judged_are (p ∷ ps) js es k (a, rest, later, m, j, e, f) n =
      let n' : Authorizations.HaveNoLimit
      (Responses.with_error p.id (Authorizations.error_in (Authorizations.evaluated a)) later) =
      subst Authorizations.HaveNoLimit f n in
      let d = (exact_at p a k.0 m).meant (no_limit_now p.id (Authorizations.evaluated a) later n') in
      let ih = judged_are ps rest later k.1 j (no_limit_later p.id (Authorizations.evaluated a) later n') in
      let v : Authorizations.result_verdict (Authorizations.evaluated a)
      ≡ verdict (meaning s.extensions ans own p.slots p.condition) =
      verdict_same _ _ d ∙ meaning_verdict (meaning s.extensions ans own p.slots p.condition) in (
        e ∙ (λ i. record { id = p.id; effect = p.effect; verdict_of = v i } ∷ ih.0 i),
        ap Authorizations.failure_kinds f
            ∙ kinds_same p.id _ _ later _ d ih.1,
      )

  pub response_exact : (mode : Policies.ErrorHandling) (ps : List Policy) (r : Authorizations.Authorized)
      → Authorizations.HaveKnownConditions ans ps
      → Authorizations.IsResponse mode (PolicyRuns s calls levels) ps r → Authorizations.HaveNoLimit r.errors
      → Authorizations.IsExactResponse mode s.extensions ans own ps r
  response_exact mode ps r k (js, j, d, h) n =
      let both_are = judged_are ps js r.errors k j n in
      record {
        decision_is = d ∙ ap (λ us. Policies.decision (Policies.counting mode us)) both_are.0;
        reasons_are = λ t.
            h t ∙ ap (λ us. Outcomes.has_text t (Policies.reasons (Policies.counting mode us))) both_are.0;
        errors_are = both_are.1;
      }

  no_limits : (ps : List Policy) (js : List Judged) (es : List (Text × Failure))
      → Authorizations.HaveKnownConditions ans ps → Authorizations.JudgesEach (PolicyRuns s calls levels) ps js es
      → Authorizations.AreNoHigher ps levels → Authorizations.HaveNoLimit es
  no_limits [] js es k (e, f) h = subst Authorizations.HaveNoLimit (sym f) tt
  no_limits (p ∷ ps) js es k (a, rest, later, m, j, e, f) h =
      subst Authorizations.HaveNoLimit (sym f)
      (no_limit_with p.id (Authorizations.evaluated a) later ((exact_at p a k.0 m).limit_by_height h.0)
      (no_limits ps rest later k.1 j h.1))

  pub low_conditions : (mode : Policies.ErrorHandling) (ps : List Policy) (r : Authorizations.Authorized)
      → Authorizations.HaveKnownConditions ans ps
      → Authorizations.IsResponse mode (PolicyRuns s calls levels) ps r → Authorizations.AreNoHigher ps levels
      → Authorizations.HaveNoLimit r.errors
  low_conditions mode ps r k (js, j, d, h) low = no_limits ps js r.errors k j low

-- ---- the own world completes the call

module _ (X : Extensions) (ans : Functions) (w : World) where
  policies_fit : (ps : List Policy) → Authorizations.HaveKnownConditions ans ps → FitPolicies ans w ps
  policies_fit [] k = tt
  policies_fit (p ∷ ps) k = (known_fits ans w p.condition k.0, policies_fit ps k.1)

  context_fits : (c : ContextPart) → Agreement.IsKnownContext c → Agreement.FitsContext X ans w c
  context_fits absent_context k = absurd k
  context_fits (known_context fs) k = tt
  context_fits (residual_context fs) k = absurd k

  part_fits : (p : PartialValue) → Agreement.IsValue p → Agreement.FitsPart X ans w p
  part_fits (value v) k = tt
  part_fits (residual t) k = absurd k

pub own_world_completes : (ans : Functions) (s : Setting) (sigma : Text → AbstractValue) (ps : List Policy)
    → Agreement.HasNothingUnknown s → ((n : Text) → s.map n ≡ None) → Authorizations.HaveKnownConditions ans ps
    → Authorizations.Completes ans (Agreement.own_world s sigma) s ps
own_world_completes ans s sigma ps known none k = record {
  agreement = record {
    request_agrees = own_request ans s sigma known;
    store_agrees = own_store ans s sigma known;
    map_agrees = λ n v e. let f : None ≡ Some v = sym (none n) ∙ e in absurd (cc);
    context_fits =
        context_fits s.extensions ans (Agreement.own_world s sigma) s.request.context_part known.context_known;
    store_fits = λ e x l p h. (
      λ q. part_fits s.extensions ans (Agreement.own_world s sigma) p ((known.store_known e x l p h).0 q),
      λ q. part_fits s.extensions ans (Agreement.own_world s sigma) p ((known.store_known e x l p h).1 q),
    );
  };
  conditions_fit = policies_fit s.extensions ans (Agreement.own_world s sigma) ps k;
}
