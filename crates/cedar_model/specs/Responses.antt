-- Responses: what is reported of each policy, when that stands in a world, and which responses follow from a request,
-- policies and a limit.
use Rattle.std.specs.Prelude.{◌≡◌, ◌≢◌, ℕ, Bool, true, false, List, [], ◌∷◌, Option, Some, None, Result, Ok, Err}
use Rattle.cedar_model.specs.Terms.{Text, bool_literal, bool_type, Term, literal, both}
use Rattle.cedar_model.specs.Values.{Represented, abstract_value}
use Rattle.cedar_model.specs.Outcomes.{bool_of}
use Rattle.cedar_model.specs.World.{World, Slots, Extensions, Functions}
use Rattle.cedar_model.specs.Meaning.{meaning}
use Rattle.cedar_model.specs.Failures.{Failure, out_of_memory, residual_is_left, value, residual, Answer, answers}
use Rattle.cedar_model.specs.Failures.{fails, wrong_type}
use Rattle.cedar_model.specs.Settings.{Setting}
use Rattle.cedar_model.specs.Rules.{StoredCalls, Runs}
use Rattle.cedar_model.specs.Agreement.{Fits, HaveSameOutcome, no_slots}
use Rattle.cedar_model.specs.Policies.{Effect, permit, forbid, Policy, Verdict, satisfied, unsatisfied, erring}
use Rattle.cedar_model.specs.Policies.{verdict}
use Rattle.cedar_model.specs.Policies.{ErrorHandling, skip, forbid_on_error, counted_verdict}
use Rattle.cedar_model.specs.Reordering.{IsReordering}

-- what a response reports of a policy: true; false, perhaps for an error; or the residual of its condition
pub data Reported : Type 0 where
  reported_true : Reported
  reported_false : Bool → Reported
  reported_residual : Term → Reported

pub record Row : Type 0 where
  pub id : Text
  pub effect : Effect
  pub annotations : List (Text × Text)
  pub reported : Reported

-- ---- what stands

-- a policy that is false with an error errs; a forbid, where an erring one counts, is unsatisfied
abbrev pub ErrsAs : ErrorHandling → Effect → Verdict → Type 0
ErrsAs skip effect v = v ≡ erring
ErrsAs forbid_on_error permit v = v ≡ erring
ErrsAs forbid_on_error forbid v = v ≡ unsatisfied

-- a true policy is satisfied; a false one isn't, and with an error it errs; where an erring forbid counts, a true
-- forbid is satisfied or errs, and a false one is unsatisfied, whether with an error or without. A residual fits the
-- world and has, without slots, the outcome of the condition
abbrev pub StandsAs : ErrorHandling → Extensions → Functions → World → Policy → Reported → Type 0
StandsAs mode X ans w p reported_true =
    counted_verdict mode p.effect (verdict (meaning X ans w p.slots p.condition)) ≡ satisfied
StandsAs mode X ans w p (reported_false true) =
    ErrsAs mode p.effect (verdict (meaning X ans w p.slots p.condition))
StandsAs mode X ans w p (reported_false false) =
    counted_verdict mode p.effect (verdict (meaning X ans w p.slots p.condition)) ≢ satisfied
StandsAs mode X ans w p (reported_residual t) =
    Fits ans w t × HaveSameOutcome (meaning X ans w no_slots t) (meaning X ans w p.slots p.condition)

abbrev pub StandInOrder : ErrorHandling → Extensions → Functions → World → List Policy → List Row → Type 0
StandInOrder mode X ans w [] [] = Unit {0}
StandInOrder mode X ans w [] (r ∷ rs) = ⊥
StandInOrder mode X ans w (p ∷ ps) [] = ⊥
StandInOrder mode X ans w (p ∷ ps) (r ∷ rs) =
    (r.id ≡ p.id) × (r.effect ≡ p.effect) × StandsAs mode X ans w p r.reported × StandInOrder mode X ans w ps rs

-- the rows of a response are the policies, each once, in whatever order, and each stands
abbrev pub Stand : ErrorHandling → Extensions → Functions → World → List Policy → List Row → Type 0
Stand mode X ans w ps rows = (ordered : List Row) × IsReordering Row ordered rows × StandInOrder mode X ans w ps ordered

-- ---- what a response follows from

-- what the answer of a condition decides: a bool; an error, which a value that is no bool is; or nothing yet, where a
-- residual is left
pub data Decided : Type 0 where
  decides : Bool → Decided
  errs_with : Failure → Decided
  leaves : Term → Decided

unfoldable pub decided_bool : Option Bool → Represented → Decided
decided_bool (Some b) v = decides b
decided_bool None v = errs_with (wrong_type bool_type [] (abstract_value v))

unfoldable pub decided : Answer → Decided
decided (answers (value v)) = decided_bool (bool_of (abstract_value v)) v
decided (answers (residual t)) = leaves t
decided (fails e) = errs_with e

-- what is reported of that
unfoldable pub reported_of : Decided → Reported
reported_of (decides true) = reported_true
reported_of (decides false) = reported_false false
reported_of (errs_with e) = reported_false true
reported_of (leaves t) = reported_residual t

-- the error that is recorded, if there is one
unfoldable pub error_of : Decided → Option Failure
error_of (decides b) = None
error_of (errs_with e) = Some e
error_of (leaves t) = None

-- a bool or an error, where a residual that is left is an error
unfoldable pub result_of : Decided → Result Bool Failure
result_of (decides b) = Ok b
result_of (errs_with e) = Err e
result_of (leaves t) = Err (residual_is_left t)

-- where an erring forbid counts, it is reported true
unfoldable pub counted_report : ErrorHandling → Effect → Reported → Reported
counted_report skip effect o = o
counted_report forbid_on_error permit o = o
counted_report forbid_on_error forbid reported_true = reported_true
counted_report forbid_on_error forbid (reported_false true) = reported_true
counted_report forbid_on_error forbid (reported_false false) = reported_false false
counted_report forbid_on_error forbid (reported_residual t) = reported_residual t

abbrev pub with_slots : Setting → Slots → Setting
with_slots s slots =
    record {
      request = s.request;
      store = s.store;
      map = s.map;
      slots = slots;
      extensions = s.extensions;
      resolution = s.resolution;
    }

-- the errors with that of one policy more, if it has one, in front
unfoldable pub with_error : {E : Type 0} → Text → Option E → List (Text × E) → List (Text × E)
with_error id None errors = errors
with_error id (Some e) errors = (id, e) ∷ errors

-- the row of a policy whose condition answers so
abbrev pub row_of : ErrorHandling → Policy → Answer → Row
row_of mode p a = record {
  id = p.id;
  effect = p.effect;
  annotations = p.annotations;
  reported = counted_report mode p.effect (reported_of (decided a));
}

-- each policy in order is reported by an answer of its condition within the limit, and its error, if any, is recorded
-- in that order; a condition whose need is above the limit errs with the recursion limit. No answer is out
-- of memory, which ends a run
abbrev pub RunOf : ErrorHandling → Setting → StoredCalls → ℕ → List Policy → List Row → List (Text × Failure) → Type 0
RunOf mode s calls levels [] rows errors = (rows ≡ []) × (errors ≡ [])
RunOf mode s calls levels (p ∷ ps) rows errors =
    (a : Answer) × (rest : List Row) × (later : List (Text × Failure))
    × Runs (with_slots s p.slots) calls levels p.condition a × (a ≢ fails out_of_memory)
    × RunOf mode s calls levels ps rest later × (rows ≡ row_of mode p a ∷ rest)
    × (errors ≡ with_error p.id (error_of (decided a)) later)

-- ---- what a response carries on

abbrev pub truth : Term
truth = literal (bool_literal true)

-- the when clause that stands for what is reported
unfoldable pub clause_of : Reported → Term
clause_of reported_true = truth
clause_of (reported_false e) = literal (bool_literal false)
clause_of (reported_residual t) = t

-- the policy that a row is carried on as: its annotations, scope constraints that are true, the clause, and no slots
abbrev pub carried : Row → Policy
carried r =
    record {
      id = r.id;
      effect = r.effect;
      annotations = r.annotations;
      condition = both (both (both truth truth) truth) (clause_of r.reported);
      slots = no_slots;
    }

-- ---- premises of what stands

-- a world fits each policy's condition
abbrev pub FitPolicies : Functions → World → List Policy → Type 0
FitPolicies ans w [] = Unit {0}
FitPolicies ans w (p ∷ ps) = Fits ans w p.condition × FitPolicies ans w ps

-- a condition is a conjunction, so its outcome is a bool or an error
abbrev pub IsCondition : Term → Type 0
IsCondition (both t u) = Unit {0}
IsCondition t = ⊥

abbrev pub AreConditions : List Policy → Type 0
AreConditions [] = Unit {0}
AreConditions (p ∷ ps) = IsCondition p.condition × AreConditions ps
