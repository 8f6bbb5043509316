-- A first response stands, in every completion that fits the conditions.
use Rattle.std.specs.Prelude.{◌≡◌, ◌≢◌, ℕ, Bool, true, false, List, [], ◌∷◌, Option, Some, None}
use Rattle.std.proofs.Common.{refl, sym, ap, ◌∙◌, subst}
use Rattle.cedar_model.specs.Terms.{Text, bool_literal, long_literal, text_literal, entity_literal}
use Rattle.cedar_model.specs.Values.{AbstractValue, plain, set_value, record_value, extension_value, Represented}
use Rattle.cedar_model.specs.Values.{abstract_value}
use Rattle.cedar_model.specs.Outcomes.{Outcome, gives, errs, bool_of}
use Rattle.cedar_model.specs.World.{World, Slots, Functions}
use Rattle.cedar_model.specs.Meaning.{meaning}
use Rattle.cedar_model.specs.Failures.{Failure, FailureKind, of_meaning, of_residual, of_limit, of_memory}
use Rattle.cedar_model.specs.Failures.{failure_kind, value, residual, Answer, answers, fails}
use Rattle.cedar_model.specs.Settings.{Setting}
use Rattle.cedar_model.specs.Rules.{StoredCalls}
use Rattle.cedar_model.specs.Agreement.{outcome_value, IsCompletion, AgreesWithFunctions, AnswerFaithfully, StandsFor}
use Rattle.cedar_model.specs.Agreement.{FailsFor}
use Rattle.cedar_model.specs.Policies.{Effect, permit, forbid, Policy, Verdict, satisfied, unsatisfied, erring, verdict}
use Rattle.cedar_model.specs.Policies.{ErrorHandling, skip, forbid_on_error, counted_verdict}
use Rattle.cedar_model.specs.Terms.{Term}
use Rattle.cedar_model.specs.Reordering.{IsReordering}
use Rattle.cedar_model.specs.Responses
use Rattle.cedar_model.proofs.Recorded
use Rattle.cedar_model.proofs.Soundness.{sound_stands, runs_sound}
use Rattle.cedar_model.proofs.Decisions.{reorder_refl}

bool_is : (a : AbstractValue) (b : Bool) → bool_of a ≡ Some b → a ≡ plain (bool_literal b)
unfolding bool_of
bool_is (plain (bool_literal c)) b e = let f : c ≡ b = cc in ap (λ x. plain (bool_literal x)) f
bool_is (plain (long_literal n)) b e = absurd (cc)
bool_is (plain (text_literal t)) b e = absurd (cc)
bool_is (plain (entity_literal d)) b e = absurd (cc)
bool_is (set_value vs) b e = absurd (cc)
bool_is (record_value fs) b e = absurd (cc)
bool_is (extension_value t k) b e = absurd (cc)

no_bool_errs : (a : AbstractValue) → bool_of a ≡ None → verdict (gives a) ≡ erring
unfolding bool_of verdict
no_bool_errs (plain (bool_literal c)) e = absurd (cc)
no_bool_errs (plain (long_literal n)) e = refl
no_bool_errs (plain (text_literal t)) e = refl
no_bool_errs (plain (entity_literal d)) e = refl
no_bool_errs (set_value vs) e = refl
no_bool_errs (record_value fs) e = refl
no_bool_errs (extension_value t k) e = refl

error_errs : (o : Outcome) → outcome_value o ≡ None → verdict o ≡ erring
unfolding outcome_value verdict
error_errs (gives v) e = absurd (cc)
error_errs (errs k) e = refl

unsatisfied_is : unsatisfied ≢ satisfied
unsatisfied_is e = cc

erring_is : erring ≢ satisfied
erring_is e = cc

verdict_true : verdict (gives (plain (bool_literal true))) ≡ satisfied
unfolding verdict
verdict_true = refl

verdict_false : verdict (gives (plain (bool_literal false))) ≡ unsatisfied
unfolding verdict
verdict_false = refl

-- ---- what counts, by mode

pub counted_satisfied : (mode : ErrorHandling) (e : Effect) → counted_verdict mode e satisfied ≡ satisfied
unfolding counted_verdict
counted_satisfied skip e = refl
counted_satisfied forbid_on_error permit = refl
counted_satisfied forbid_on_error forbid = refl

counted_unsatisfied : (mode : ErrorHandling) (e : Effect) → counted_verdict mode e unsatisfied ≡ unsatisfied
unfolding counted_verdict
counted_unsatisfied skip e = refl
counted_unsatisfied forbid_on_error permit = refl
counted_unsatisfied forbid_on_error forbid = refl

pub counted_true : (mode : ErrorHandling) (e : Effect)
    → Responses.counted_report mode e Responses.reported_true ≡ Responses.reported_true
unfolding Responses.counted_report
counted_true skip e = refl
counted_true forbid_on_error permit = refl
counted_true forbid_on_error forbid = refl

pub counted_false : (mode : ErrorHandling) (e : Effect)
    → Responses.counted_report mode e (Responses.reported_false false) ≡ Responses.reported_false false
unfolding Responses.counted_report
counted_false skip e = refl
counted_false forbid_on_error permit = refl
counted_false forbid_on_error forbid = refl

pub counted_residual : (mode : ErrorHandling) (e : Effect) (t : Term)
    → Responses.counted_report mode e (Responses.reported_residual t) ≡ Responses.reported_residual t
unfolding Responses.counted_report
counted_residual skip e t = refl
counted_residual forbid_on_error permit t = refl
counted_residual forbid_on_error forbid t = refl

counted_error : (mode : ErrorHandling) (e : Effect) (P : Responses.Reported → Type 0)
    → (counted_verdict mode e erring ≡ satisfied → P Responses.reported_true)
    → (counted_verdict mode e erring ≡ erring → P (Responses.reported_false true))
    → P (Responses.counted_report mode e (Responses.reported_false true))
unfolding Responses.counted_report counted_verdict
counted_error skip e P f g = g refl
counted_error forbid_on_error permit P f g = g refl
counted_error forbid_on_error forbid P f g = f refl

errs_as : (mode : ErrorHandling) (e : Effect) (v : Verdict) → v ≡ erring → counted_verdict mode e erring ≡ erring
    → Responses.ErrsAs mode e v
unfolding counted_verdict
errs_as skip e v h k = h
errs_as forbid_on_error permit v h k = h
errs_as forbid_on_error forbid v h k = absurd (cc)

-- what errs so doesn't count as satisfied
pub errs_isn't : (mode : ErrorHandling) (e : Effect) (v : Verdict) → Responses.ErrsAs mode e v
    → counted_verdict mode e v ≢ satisfied
unfolding counted_verdict
errs_isn't skip e v h k = (let z = sym h ∙ k in erring_is z)
errs_isn't forbid_on_error permit v h k = (let z = sym h ∙ k in erring_is z)
errs_isn't forbid_on_error forbid v h k = unsatisfied_is (sym (ap (counted_verdict forbid_on_error forbid) h) ∙ k)

module _ (mode : ErrorHandling) (ans : Functions) (w : World) (s : Setting) (p : Policy) where
  abbrev M : Outcome
  M = meaning s.extensions ans w p.slots p.condition

  abbrev Counts : Responses.Reported → Type 0
  Counts o = Responses.StandsAs mode s.extensions ans w p (Responses.counted_report mode p.effect o)

  true_stands : verdict M ≡ satisfied → Counts Responses.reported_true
  true_stands h =
      subst (Responses.StandsAs mode s.extensions ans w p) (sym (counted_true mode p.effect))
      (ap (counted_verdict mode p.effect) h ∙ counted_satisfied mode p.effect)

  false_stands : verdict M ≡ unsatisfied → Counts (Responses.reported_false false)
  false_stands h =
      subst (Responses.StandsAs mode s.extensions ans w p) (sym (counted_false mode p.effect))
      (λ q. unsatisfied_is (sym (ap (counted_verdict mode p.effect) h ∙ counted_unsatisfied mode p.effect) ∙ q))

  error_stands : verdict M ≡ erring → Counts (Responses.reported_false true)
  error_stands h =
      counted_error mode p.effect (Responses.StandsAs mode s.extensions ans w p)
      (λ e. ap (counted_verdict mode p.effect) h ∙ e) (errs_as mode p.effect (verdict M) h)

  value_stands : (v : Represented) (o : Option Bool) → bool_of (abstract_value v) ≡ o → M ≡ gives (abstract_value v)
      → Counts (Responses.reported_of (Responses.decided_bool o v))
  unfolding Responses.reported_of Responses.decided_bool
  value_stands v (Some true) e h = true_stands (ap verdict (h ∙ ap gives (bool_is (abstract_value v) true e))
      ∙ verdict_true)
  value_stands v (Some false) e h = false_stands (ap verdict (h ∙ ap gives (bool_is (abstract_value v) false e))
      ∙ verdict_false)
  value_stands v None e h = error_stands (ap verdict h ∙ no_bool_errs (abstract_value v) e)

  failure_stands : (k : FailureKind) → k ≢ of_limit → k ≢ of_memory → FailsFor k M → verdict M ≡ erring
  failure_stands (of_meaning j) nl nm h = error_errs M h
  failure_stands of_residual nl nm h = error_errs M h
  failure_stands of_limit nl nm h = absurd (nl refl)
  failure_stands of_memory nl nm h = absurd (nm refl)

  pub answer_stands : (a : Answer) → Recorded.IsRecordable (Responses.error_of (Responses.decided a))
      → StandsFor s.extensions ans w a M
      → Counts (Responses.reported_of (Responses.decided a))
  unfolding Responses.reported_of Responses.error_of Responses.decided
  answer_stands (answers (value v)) r h = value_stands v (bool_of (abstract_value v)) refl h.1
  answer_stands (answers (residual t)) r h =
      subst (Responses.StandsAs mode s.extensions ans w p) (sym (counted_residual mode p.effect t)) h
  answer_stands (fails e) r h = error_stands (failure_stands (failure_kind e) r.0 r.1 h)

pub with_slots_done : (ans : Functions) (w : World) (s : Setting) (slots : Slots) → IsCompletion ans w s
    → IsCompletion ans w (Responses.with_slots s slots)
with_slots_done ans w s slots d = record {
  agreement = record {
    request_agrees = d.agreement.request_agrees;
    store_agrees = d.agreement.store_agrees;
    map_agrees = d.agreement.map_agrees;
    context_fits = d.agreement.context_fits;
    store_fits = d.agreement.store_fits;
  };
  values = record {
    context_faithful = d.values.context_faithful;
    store_faithful = d.values.store_faithful;
    map_faithful = d.values.map_faithful;
  };
}

-- an error that is recorded, or none, and those after it
pub recorded : (id : Text) (o : Option Failure) (later : List (Text × Failure))
    → Recorded.AreRecordable (Responses.with_error id o later) → Recorded.IsRecordable o × Recorded.AreRecordable later
unfolding Responses.with_error
recorded id None later h = (tt, h)
recorded id (Some e) later h = (h.0, h.1)

module _ (mode : ErrorHandling) (ans : Functions) (calls : StoredCalls) (agree : AgreesWithFunctions ans calls)
    (w : World) (s : Setting) (done : IsCompletion ans w s) (faithful : AnswerFaithfully s.extensions ans calls)
    (levels : ℕ) where
  pub run_stands : (ps : List Policy) (rows : List Responses.Row) (errors : List (Text × Failure))
      → Responses.FitPolicies ans w ps → Recorded.AreRecordable errors
      → Responses.RunOf mode s calls levels ps rows errors → Responses.StandInOrder mode s.extensions ans w ps rows
  run_stands [] rows errors f r h = subst (Responses.StandInOrder mode s.extensions ans w []) (sym h.0) tt
  run_stands (p ∷ ps) rows errors f r (a, rest, later, g, m, j, e, q) =
      let z = recorded p.id (Responses.error_of (Responses.decided a)) later (subst Recorded.AreRecordable q r) in
      let k = sound_stands ans calls agree w (Responses.with_slots s p.slots)
      (with_slots_done ans w s p.slots done) faithful p.condition a
      (runs_sound ans calls agree w (Responses.with_slots s p.slots)
      (with_slots_done ans w s p.slots done) faithful levels p.condition a f.0 g) in
      subst (Responses.StandInOrder mode s.extensions ans w (p ∷ ps)) (sym e)
      (refl, refl, answer_stands mode ans w s p a z.0 k, run_stands ps rest later f.1 z.1 j)

pub in_order_stands : (rows : List Responses.Row) (P : List Responses.Row → Type 0) → P rows
    → (ordered : List Responses.Row) × IsReordering Responses.Row ordered rows × P ordered
in_order_stands rows P h = (rows, reorder_refl rows, h)
