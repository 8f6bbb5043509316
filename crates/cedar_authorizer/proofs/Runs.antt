-- Runs, policy by policy, and what follows of them.
use Rattle.std.specs.Prelude.{◌≡◌, ◌≢◌, ℕ, Bool, true, false, cond, List, [], ◌∷◌, ◌++◌, map, Option, Some, None}
use Rattle.std.proofs.Common.{refl, ap, ◌∙◌}
use Rattle.cedar_model.specs.Terms.{Text, bool_literal}
use Rattle.cedar_model.specs.Values.{plain, abstract_value}
use Rattle.cedar_model.specs.Outcomes.{Outcome, bool_of}
use Rattle.cedar_model.specs.World.{Functions}
use Rattle.cedar_model.specs.Failures.{Failure, value, residual, Answer, answers, fails, out_of_memory, limit}
use Rattle.cedar_model.specs.Settings.{Setting}
use Rattle.cedar_model.specs.Rules.{StoredCalls, Runs}
use Rattle.cedar_model.specs.Agreement.{AgreesWithFunctions, HasNothingUnknown, IsKnown, AnswersOutcome}
use Rattle.cedar_model.specs.Policies.{Policy, Effect, permit, forbid, ErrorHandling}
use Rattle.cedar_model.specs.Responses.{Row, Reported, decided, decided_bool, reported_of, error_of, counted_report, with_slots, with_error, row_of, RunOf}
use Rattle.cedar_model.specs.Chains.{has_effect, is_residual, rows_of}
use Rattle.cedar_model.specs.Authorizations.{HaveKnownConditions}
use Rattle.cedar_model.specs.Reports.{ids, HaveNoResidual}
use Rattle.cedar_model.proofs.Concrete.{residual_same}
use Rattle.cedar_model.proofs.Exactly as exactly

-- ---- one policy more

with_error_more : (id : Text) (o : Option Failure) (es fs : List (Text × Failure)) → with_error id o es ++ fs ≡ with_error id o (es ++ fs)
unfolding with_error
with_error_more id None es fs = refl
with_error_more id (Some e) es fs = refl

module _ (mode : ErrorHandling) (s : Setting) (calls : StoredCalls) (levels : ℕ) where
  pub run_more : (ps : List Policy) (rows : List Row) (errors : List (Text × Failure)) (p : Policy) (a : Answer) → RunOf mode s calls levels ps rows errors → Runs (with_slots s p.slots) calls levels p.condition a → a ≢ fails out_of_memory → RunOf mode s calls levels (ps ++ p ∷ []) (rows ++ row_of mode p a ∷ []) (errors ++ with_error p.id (error_of (decided a)) [])
  run_more [] rows errors p a (e, f) runs found =
      (a, [], [], runs, found, (refl, refl), ap (λ (l : List Row). l ++ row_of mode p a ∷ []) e, ap (λ (l : List (Text × Failure)). l ++ with_error p.id (error_of (decided a)) []) f)
  run_more (q ∷ ps) rows errors p a (b, rest, later, m, g, j, e, f) runs found =
      (b, rest ++ row_of mode p a ∷ [], later ++ with_error p.id (error_of (decided a)) [], m, g, run_more ps rest later p a j runs found, ap (λ (l : List Row). l ++ row_of mode p a ∷ []) e, ap (λ (l : List (Text × Failure)). l ++ with_error p.id (error_of (decided a)) []) f ∙ with_error_more q.id (error_of (decided b)) later (with_error p.id (error_of (decided a)) []))

  -- the rows have the ids of the policies
  pub run_ids : (ps : List Policy) (rows : List Row) (errors : List (Text × Failure)) → RunOf mode s calls levels ps rows errors → ids rows ≡ map (λ (p : Policy). p.id) ps
  run_ids [] rows errors (e, f) = ap ids e
  run_ids (p ∷ ps) rows errors (a, rest, later, m, g, j, e, f) = ap ids e ∙ ap (λ (ts : List Text). p.id ∷ ts) (run_ids ps rest later j)

-- ---- where nothing is unknown

bool_decided : (o : Option Bool) (v : _) → is_residual (reported_of (decided_bool o v)) ≡ false
unfolding decided_bool reported_of is_residual
bool_decided (Some true) v = refl
bool_decided (Some false) v = refl
bool_decided None v = refl

no_residual_answer : (a : Answer) (o : Outcome) → (a ≢ limit → AnswersOutcome a o) → is_residual (reported_of (decided a)) ≡ false
unfolding decided reported_of is_residual
no_residual_answer (answers (value v)) o h = bool_decided (bool_of (abstract_value v)) v
no_residual_answer (answers (residual t)) o h = absurd (h (λ (e : answers (residual t) ≡ limit). cc))
no_residual_answer (fails e) o h = refl

no_row : (effect other : Effect) (r : Reported) (row : Row) (rows : List Row) → is_residual r ≡ false → cond (has_effect effect other) (cond (is_residual r) (row ∷ rows) rows) rows ≡ rows
no_row effect other r row rows h = by (has_effect effect other) (is_residual r) h
  where
    by : (b c : Bool) → c ≡ false → cond b (cond c (row ∷ rows) rows) rows ≡ rows
    by b true g = absurd (cc)
    by true false g = refl
    by false false g = refl

module _ (mode : ErrorHandling) (s : Setting) (calls : StoredCalls) (levels : ℕ) (known : HasNothingUnknown s) (ans : Functions) (agree : AgreesWithFunctions ans calls) where
  answered : (p : Policy) (a : Answer) → IsKnown ans p.condition → Runs (with_slots s p.slots) calls levels p.condition a → is_residual (reported_of (decided a)) ≡ false
  answered p a k runs =
      no_residual_answer a _ (exactly.answer_exact calls ans agree (with_slots s p.slots) (exactly.known_with_slots s p.slots known) (λ n. plain (bool_literal false)) levels p.condition a k runs).meant

  none_of : (effect : Effect) (ps : List Policy) (rows : List Row) (errors : List (Text × Failure)) → HaveKnownConditions ans ps → RunOf mode s calls levels ps rows errors → rows_of effect is_residual rows ≡ []
  unfolding rows_of
  none_of effect [] rows errors k (e, f) = ap (rows_of effect is_residual) e
  none_of effect (p ∷ ps) rows errors k (a, rest, later, m, g, j, e, f) =
      ap (rows_of effect is_residual) e
      ∙ no_row effect p.effect (counted_report mode p.effect (reported_of (decided a))) (row_of mode p a) (rows_of effect is_residual rest) (residual_same mode p.effect (reported_of (decided a)) ∙ answered p a k.0 m)
      ∙ none_of effect ps rest later k.1 j

  -- no row of a run is residual
  pub run_known : (ps : List Policy) (rows : List Row) (errors : List (Text × Failure)) → HaveKnownConditions ans ps → RunOf mode s calls levels ps rows errors → HaveNoResidual rows
  run_known ps rows errors k run = (none_of permit ps rows errors k run, none_of forbid ps rows errors k run)
