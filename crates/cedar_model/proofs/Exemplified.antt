-- Runs that compute, for the examples.
use Rattle.std.specs.Prelude.{◌≡◌, ◌≢◌, ℕ, Bool, true, false, cond, List, [], ◌∷◌, Some}
use Rattle.std.proofs.Common.{refl, sym, ap, ◌∙◌, subst}
use Rattle.std.specs.Cmp.Lexicographic.{bytes_decides}
use Rattle.cedar_model.specs.Terms.{Text, Term}
use Rattle.cedar_model.specs.Outcomes.{text_eq}
use Rattle.cedar_model.specs.Failures.{Failure, FailureKind, of_meaning, of_residual, of_limit, of_memory}
use Rattle.cedar_model.specs.Failures.{failure_kind, Answer, answers, answers_bool, fails, out_of_memory}
use Rattle.cedar_model.specs.Settings.{Setting, part_at}
use Rattle.cedar_model.specs.Rules
use Rattle.cedar_model.specs.Policies
use Rattle.cedar_model.specs.Policies.{Policy, ErrorHandling}
use Rattle.cedar_model.specs.Responses
use Rattle.cedar_model.specs.Responses.{Row}
use Rattle.cedar_model.specs.Refusals
use Rattle.cedar_model.specs.Chains
use Rattle.cedar_model.specs.Reports
use Rattle.cedar_model.specs.examples.Setting.{some_calls}
use Rattle.cedar_model.specs.laws.Levels.{FunctionsAnswer}
use Rattle.cedar_model.proofs.Computed.{meaning_opened}
use Rattle.cedar_model.proofs.Total.{total}
use Rattle.cedar_model.proofs.Injections.{some_inj, none_is_not_some}

-- all that chains compute with
unfoldable pub chain_opened : Unit {0}
unfolding meaning_opened Responses.reported_of Responses.decided Responses.decided_bool Responses.error_of
    Responses.with_error Responses.clause_of Chains.value_for Chains.substituted Chains.rows_of Chains.has_effect
    Chains.is_true Chains.is_false Chains.is_residual Chains.is_limit Chains.has_limit Chains.is_same_mode
    Responses.counted_report Policies.counted_verdict Refusals.typed_entry
    Refusals.entry_beside Refusals.entry_by Refusals.concrete_entry Refusals.context_beside Refusals.context_by
    Refusals.concrete_context Refusals.unless_refused Reports.some_row Reports.is_errored Reports.policy_with_id
    Policies.verdict Policies.is_satisfied_by Policies.some_satisfied Policies.satisfied_ids
chain_opened = tt

-- ---- a run

abbrev some_answer : (s : Setting) → FunctionsAnswer some_calls s.extensions.arity
some_answer s f vs e = (answers_bool true, refl)

abbrev pub answer_to : Setting → ℕ → Term → Answer
answer_to s n t = (total s some_calls (some_answer s) n t).0

pub runs_to : (s : Setting) (n : ℕ) (t : Term) (a : Answer) → answer_to s n t ≡ a → Rules.Runs s some_calls n t a
runs_to s n t a e = subst (Rules.Runs s some_calls n t) e (total s some_calls (some_answer s) n t).1

abbrev pub policy_answer : Setting → ℕ → Policy → Answer
policy_answer s n p = answer_to (Responses.with_slots s p.slots) n p.condition

abbrev pub rows_to : ErrorHandling → Setting → ℕ → List Policy → List Row
rows_to mode s n [] = []
rows_to mode s n (p ∷ ps) = Responses.row_of mode p (policy_answer s n p) ∷ rows_to mode s n ps

abbrev pub errors_to : Setting → ℕ → List Policy → List (Text × Failure)
errors_to s n [] = []
errors_to s n (p ∷ ps) =
    Responses.with_error p.id (Responses.error_of (Responses.decided (policy_answer s n p))) (errors_to s n ps)

unfoldable pub is_memory : FailureKind → Bool
is_memory (of_meaning k) = false
is_memory of_residual = false
is_memory of_limit = false
is_memory of_memory = true

unfoldable pub finds_none : Answer → Bool
finds_none (answers p) = false
finds_none (fails e) = is_memory (failure_kind e)

none_is_found : finds_none (fails out_of_memory) ≡ true
unfolding finds_none is_memory failure_kind
none_is_found = refl

-- no answer is out of memory
abbrev pub FindMemory : Setting → ℕ → List Policy → Type 0
FindMemory s n [] = Unit {0}
FindMemory s n (p ∷ ps) = (finds_none (policy_answer s n p) ≡ false) × FindMemory s n ps

no_memory : (a : Answer) → finds_none a ≡ false → a ≢ fails out_of_memory
no_memory a h e = let z = sym h ∙ ap finds_none e ∙ none_is_found in cc

pub run_to : (mode : ErrorHandling) (s : Setting) (n : ℕ) (ps : List Policy) → FindMemory s n ps
    → Responses.RunOf mode s some_calls n ps (rows_to mode s n ps) (errors_to s n ps)
run_to mode s n [] h = (refl, refl)
run_to mode s n (p ∷ ps) h = (
  policy_answer s n p,
  rows_to mode s n ps,
  errors_to s n ps,
  runs_to (Responses.with_slots s p.slots) n p.condition
      (policy_answer s n p) refl,
  no_memory (policy_answer s n p) h.0,
  run_to mode s n ps h.1,
  refl,
  refl,
)

-- ---- a map by its list

abbrev pub EachPair : {A : Type 0} → (Text → A → Type 0) → List (Text × A) → Type 0
EachPair Such [] = Unit {0}
EachPair Such (p ∷ ps) = Such p.0 p.1 × EachPair Such ps

pub at_each : {A : Type 0} (Such : Text → A → Type 0) (ps : List (Text × A)) → EachPair Such ps → (n : Text) (v : A)
    → part_at n ps ≡ Some v → Such n v
unfolding part_at
at_each Such [] h n v e = absurd (none_is_not_some e)
at_each Such (p ∷ ps) h n v e = by (text_eq n p.0) refl e (at_each Such ps h.1 n v)
  where
    by : (b : Bool) → text_eq n p.0 ≡ b → cond b (Some p.1) (part_at n ps) ≡ Some v
        → (part_at n ps ≡ Some v → Such n v) → Such n v
    by true f g rest =
        subst (λ u. Such n u) (some_inj g) (subst (λ k. Such k p.1) (sym ((bytes_decides n p.0).0 f)) h.0)
    by false f g rest = rest g
