-- What an entity tells of a response's rows: of each residual that is a condition on one row, whether it counts.
use Rattle.std.specs.Prelude.{◌≡◌, Bool, true, false, cond, ◌||◌, List, [], ◌∷◌, map, Option, Some, None}
use Rattle.cedar_model.specs.Terms.{Text, EntityName, ValueType, Term}
use Rattle.cedar_model.specs.Settings.{StoredEntity}
use Rattle.cedar_model.specs.Policies.{Effect, permit, forbid, Verdict, satisfied, unsatisfied, erring, verdict}
use Rattle.cedar_model.specs.Policies.{Decision, allow, deny, ErrorHandling, skip, forbid_on_error}
use Rattle.cedar_model.specs.Responses.{Reported, reported_true, reported_false, reported_residual, Row}
use Rattle.cedar_model.specs.Responses.{counted_report}
use Rattle.cedar_model.specs.Chains.{has_effect}
use Rattle.cedar_model.specs.Reports.{given_decision}
use Rattle.cedar_filter.specs.Simplifying.{simplified}
use Rattle.cedar_filter.specs.Faults.{condition_fault, can_stand_for}
use Rattle.cedar_filter.specs.Rows.{Told, tells, untold, condition_told}
use Rattle.cedar_plan.specs.Planned.{Planned, filter_of, rest_of}

-- ---- one policy

-- whether a policy of this effect that errs counts as satisfied
abbrev pub errs_count : ErrorHandling → Effect → Bool
errs_count skip effect = false
errs_count forbid_on_error permit = false
errs_count forbid_on_error forbid = true

abbrev pub verdict_counts : Bool → Verdict → Bool
verdict_counts errs satisfied = true
verdict_counts errs unsatisfied = false
verdict_counts errs erring = errs

-- whether a policy counts as satisfied, where that is told
abbrev pub counts_as : Bool → Told → Option Bool
counts_as errs (tells o) = Some (verdict_counts errs (verdict o))
counts_as errs untold = None

-- the same of what a residual asks, at the entity `e`
abbrev pub counts_at : Bool → EntityName → StoredEntity → Planned → Option Bool
counts_at errs e x (filter_of n a t) = cond (can_stand_for a e) (counts_as errs (condition_told n e x t)) None
counts_at errs e x (rest_of part) = None

-- ---- the policies of an effect, as a plan has them

abbrev pub is_counted : Option Bool → Bool
is_counted None = false
is_counted (Some b) = b

abbrev pub is_untold : Option Bool → Bool
is_untold None = true
is_untold (Some b) = false

-- whether one of the residual ones counts
unfoldable pub some_counts : Bool → EntityName → StoredEntity → List (Text × Planned) → Bool
some_counts errs e x [] = false
some_counts errs e x (p ∷ ps) = is_counted (counts_at errs e x p.1) || some_counts errs e x ps

-- whether of one of them that is not told
unfoldable pub some_untold : Bool → EntityName → StoredEntity → List (Text × Planned) → Bool
some_untold errs e x [] = false
some_untold errs e x (p ∷ ps) = is_untold (counts_at errs e x p.1) || some_untold errs e x ps

-- ---- the rows of a response

abbrev pub reported_verdict : Verdict → Reported
reported_verdict satisfied = reported_true
reported_verdict unsatisfied = reported_false false
reported_verdict erring = reported_false true

module _ (mode : ErrorHandling) (n : Text) (a : Option ValueType) (e : EntityName) (x : StoredEntity) where
  -- what is reported of a residual, once the entity told this of it
  abbrev pub told_report : Effect → Term → Told → Reported
  told_report effect t (tells o) = counted_report mode effect (reported_verdict (verdict o))
  told_report effect t untold = reported_residual t

  -- a residual that is no condition on one row stays
  abbrev pub residual_report : Effect → Term → Option Term → Reported
  residual_report effect t None = told_report effect t (condition_told n e x (simplified t))
  residual_report effect t (Some part) = reported_residual t

  abbrev pub report_at : Effect → Reported → Reported
  report_at effect reported_true = reported_true
  report_at effect (reported_false b) = reported_false b
  report_at effect (reported_residual t) = residual_report effect t (condition_fault n a (simplified t))

  -- a row of a response, with what the entity tells in place of its residual
  abbrev pub row_at : Row → Row
  row_at r =
      record { id = r.id; effect = r.effect; annotations = r.annotations; reported = report_at r.effect r.reported }

  abbrev pub rows_at : List Row → List Row
  rows_at rows = map row_at rows

  -- the decision that is told: none of an entity that cannot stand for the unknown
  abbrev pub decision_at : List Row → Option Decision
  decision_at rows = cond (can_stand_for a e) (given_decision (rows_at rows)) None

-- ---- what stays open

-- a residual as if its policy were satisfied, or as if it were not
abbrev pub settled_report : Bool → Reported → Reported
settled_report holds reported_true = reported_true
settled_report holds (reported_false b) = reported_false b
settled_report true (reported_residual t) = reported_true
settled_report false (reported_residual t) = reported_false false

-- the residual rows of this effect as if they were satisfied, and those of the other as if they were not
abbrev pub settled_row : Effect → Row → Row
settled_row effect r = record {
  id = r.id;
  effect = r.effect;
  annotations = r.annotations;
  reported = settled_report (has_effect effect r.effect) r.reported;
}

abbrev pub settled_for : Effect → List Row → List Row
settled_for effect rows = map (settled_row effect) rows

-- what is residual among the rows can make it Allow, and can make it Deny
abbrev pub CanGoEitherWay : List Row → Type 0
CanGoEitherWay rows =
    (given_decision (settled_for permit rows) ≡ Some allow) × (given_decision (settled_for forbid rows) ≡ Some deny)
