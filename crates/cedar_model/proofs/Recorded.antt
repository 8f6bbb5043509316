-- Errors that policies may have in what stands: neither the recursion limit nor out of memory.
use Rattle.std.specs.Prelude.{◌≡◌, ◌≢◌, ℕ, List, [], ◌∷◌, Option, Some, None}
use Rattle.std.proofs.Common.{refl, sym, ap, subst}
use Rattle.cedar_model.specs.Terms.{Text}
use Rattle.cedar_model.specs.Values.{abstract_value}
use Rattle.cedar_model.specs.Outcomes.{bool_of}
use Rattle.cedar_model.specs.Failures.{Failure, entity_is_missing, entity_attribute_is_missing}
use Rattle.cedar_model.specs.Failures.{record_attribute_is_missing, function_is_missing, type_is_wrong}
use Rattle.cedar_model.specs.Failures.{arguments_are_miscounted, binary_overflow, unary_overflow, slot_is_unlinked}
use Rattle.cedar_model.specs.Failures.{function_has_failed, residual_is_left, recursion_limit, out_of_memory}
use Rattle.cedar_model.specs.Failures.{memory_is_wrapped}
use Rattle.cedar_model.specs.Failures.{of_limit, of_memory, failure_kind, value, residual, Answer, answers, fails}
use Rattle.cedar_model.specs.Settings.{Setting}
use Rattle.cedar_model.specs.Rules.{StoredCalls}
use Rattle.cedar_model.specs.Policies.{Policy, ErrorHandling}
use Rattle.cedar_model.specs.Responses
use Rattle.cedar_model.specs.Authorizations.{HaveNoLimit}
use Rattle.cedar_model.proofs.Determined.{kind_of_limit}

abbrev pub IsRecordable : Option Failure → Type 0
IsRecordable None = Unit {0}
IsRecordable (Some e) = (failure_kind e ≢ of_limit) × (failure_kind e ≢ of_memory)

abbrev pub AreRecordable : List (Text × Failure) → Type 0
AreRecordable [] = Unit {0}
AreRecordable (e ∷ es) = IsRecordable (Some e.1) × AreRecordable es

kind_of_memory : (e : Failure) → failure_kind e ≡ of_memory → e ≡ out_of_memory
unfolding failure_kind
kind_of_memory (entity_is_missing x) h = absurd (cc)
kind_of_memory (entity_attribute_is_missing x k w o l n) h = absurd (cc)
kind_of_memory (record_attribute_is_missing k l n) h = absurd (cc)
kind_of_memory (function_is_missing f) h = absurd (cc)
kind_of_memory (type_is_wrong x xs y) h = absurd (cc)
kind_of_memory (arguments_are_miscounted f m n) h = absurd (cc)
kind_of_memory (binary_overflow op v w) h = absurd (cc)
kind_of_memory (unary_overflow op v) h = absurd (cc)
kind_of_memory (slot_is_unlinked i) h = absurd (cc)
kind_of_memory (function_has_failed x m) h = absurd (cc)
kind_of_memory (residual_is_left t) h = absurd (cc)
kind_of_memory recursion_limit h = absurd (cc)
kind_of_memory out_of_memory h = refl
kind_of_memory memory_is_wrapped h = absurd (cc)

-- the error of an answer that is not out of memory, where it is not the limit
pub unless_memory : (a : Answer) (id : Text) (later : List (Text × Failure)) → a ≢ fails out_of_memory
    → HaveNoLimit (Responses.with_error id (Responses.error_of (Responses.decided a)) later)
    → IsRecordable (Responses.error_of (Responses.decided a))
    × HaveNoLimit later
unfolding Responses.with_error Responses.error_of Responses.decided Responses.decided_bool failure_kind
unless_memory (answers (value v)) id later m h = by (bool_of (abstract_value v)) h
  where
    by : (o : Option _) → HaveNoLimit (Responses.with_error id (Responses.error_of (Responses.decided_bool o v)) later)
        → IsRecordable (Responses.error_of (Responses.decided_bool o v)) × HaveNoLimit later
    by (Some b) g = (tt, g)
    by None g = ((λ e. cc, λ e. cc), g.1)
unless_memory (answers (residual t)) id later m h = (tt, h)
unless_memory (fails e) id later m h =
    ((λ k. h.0 (kind_of_limit e k), λ k. m (ap fails (kind_of_memory e k))), h.1)

pub run_recordable : (mode : ErrorHandling) (s : Setting) (calls : StoredCalls) (levels : ℕ) (ps : List Policy)
    (rows : List Responses.Row)
    (errors : List (Text × Failure)) → HaveNoLimit errors → Responses.RunOf mode s calls levels ps rows errors
    → AreRecordable errors
unfolding Responses.with_error Responses.error_of
run_recordable mode s calls levels [] rows errors h r = subst AreRecordable (sym r.1) tt
run_recordable mode s calls levels (p ∷ ps) rows errors h (a, rest, later, g, m, j, e, k) =
    let z = unless_memory a p.id later m (subst HaveNoLimit k h) in
    subst AreRecordable (sym k) (with_recorded p.id (Responses.error_of (Responses.decided a)) later z.0
    (run_recordable mode s calls levels ps rest later z.1 j))
  where
    with_recorded : (id : Text) (o : Option Failure) (es : List (Text × Failure)) → IsRecordable o → AreRecordable es
        → AreRecordable (Responses.with_error id o es)
    with_recorded id None es i j = j
    with_recorded id (Some f) es i j = (i, j)
