-- What is permitted is what the policies decide that SQL says.
use Rattle.std.proofs.Common.{◌≡◌, ◌∙◌, Bool, true, false, cond, not, ◌&&◌, ◌||◌, Option, Some, None, refl, sym, ap}
use Rattle.sqlite_value.specs.Order.{Row}
use Rattle.sqlite_sql.specs.Ops.{from_truth}
use Rattle.sqlite_sql.specs.Term.{Term}
use Rattle.cedar_model.specs.Terms.{EntityName}
use Rattle.cedar_model.specs.Settings.{StoredEntity}
use Rattle.cedar_model.specs.Policies as model
use Rattle.cedar_model.specs.Policies.{forbid}
use Rattle.cedar_decisions.specs.Decisions.{known_decision}
use Rattle.cedar_filter.specs.Faults.{can_stand_for}
use Rattle.cedar_plan.specs.declared.plans.Plan.{Plan}
use Rattle.cedar_plan.specs.Planned.{row_type, plan_mode, plan_permits, plan_forbids, satisfied_in, residuals_in, some_of}
use Rattle.cedar_plan.specs.Told.{errs_count}
use Rattle.cedar_sql.specs.declared.columns.Columns.{Columns}
use Rattle.cedar_sql_plan.specs.Said.{some_said, some_count, some_open, decision_by_said, said_decision}
use Rattle.cedar_sql_plan.specs.Said.{is_allow, is_deny}
use Rattle.cedar_sql_plan.specs.Meaning.{IsTruthOn, permitted, permitted_row, IsAllowedTerm, IsCandidateTerm}

-- ---- bools

closed_or : (s o d : Bool) → ((s || (false && o)) || d) ≡ (s || d)
closed_or true o d = refl
closed_or false o d = refl

open_or : (s o d : Bool) → ((s || (true && o)) || d) ≡ ((s || d) || o)
open_or true o d = refl
open_or false true true = refl
open_or false true false = refl
open_or false false true = refl
open_or false false false = refl

allow_is : (pc po fc fo : Bool) → (pc && not (fc || fo)) ≡ is_allow (known_decision pc po fc fo)
allow_is true po true fo = refl
allow_is true po false true = refl
allow_is true po false false = refl
allow_is false po true fo = refl
allow_is false true false true = refl
allow_is false true false false = refl
allow_is false false false fo = refl

candidate_is : (pc po fc fo : Bool) → ((pc || po) && not fc) ≡ not (is_deny (known_decision pc po fc fo))
candidate_is true po true fo = refl
candidate_is true po false true = refl
candidate_is true po false false = refl
candidate_is false true true fo = refl
candidate_is false true false true = refl
candidate_is false true false false = refl
candidate_is false false true fo = refl
candidate_is false false false fo = refl

-- ---- plans

module _ (columns : Columns) (p : Plan) (e : EntityName) (x : StoredEntity) where
  abbrev permit_holds : Bool
  permit_holds = some_of (satisfied_in (plan_permits p))

  abbrev permit_said : Bool
  permit_said = some_said columns false e x (residuals_in (plan_permits p))

  abbrev permit_open : Bool
  permit_open = some_open columns (plan_permits p)

  abbrev forbid_holds : Bool
  forbid_holds = some_of (satisfied_in (plan_forbids p))

  abbrev forbid_said : Bool
  forbid_said = some_said columns (errs_count (plan_mode p) forbid) e x (residuals_in (plan_forbids p))

  abbrev forbid_open : Bool
  forbid_open = some_open columns (plan_forbids p)

  permitted_is_allow : permitted columns p false e x ≡ is_allow (decision_by_said columns p e x)
  permitted_is_allow =
      (λ i. closed_or permit_holds permit_open permit_said i && not (open_or forbid_holds forbid_open forbid_said i))
      ∙ allow_is (permit_holds || permit_said) permit_open (forbid_holds || forbid_said) forbid_open

  permitted_is_candidate : permitted columns p true e x ≡ not (is_deny (decision_by_said columns p e x))
  permitted_is_candidate =
      (λ i. open_or permit_holds permit_open permit_said i && not (closed_or forbid_holds forbid_open forbid_said i))
      ∙ candidate_is (permit_holds || permit_said) permit_open (forbid_holds || forbid_said) forbid_open

  -- ---- of the type that is asked for

  allow_where : (can holds : Bool) (d : Option model.Decision) → holds ≡ is_allow d
      → (can && holds) ≡ is_allow (cond can d None)
  allow_where true holds d is = is
  allow_where false holds d is = refl

  candidate_where : (can holds : Bool) (d : Option model.Decision) → holds ≡ not (is_deny d)
      → (can && holds) ≡ (can && not (is_deny (cond can d None)))
  candidate_where true holds d is = is
  candidate_where false holds d is = refl

  row_is_allow : permitted_row columns p false e x ≡ is_allow (said_decision columns p e x)
  row_is_allow =
      allow_where (can_stand_for (row_type p) e) (permitted columns p false e x) (decision_by_said columns p e x)
      permitted_is_allow

  row_is_candidate : permitted_row columns p true e x
      ≡ (can_stand_for (row_type p) e && not (is_deny (said_decision columns p e x)))
  row_is_candidate =
      candidate_where (can_stand_for (row_type p) e) (permitted columns p true e x) (decision_by_said columns p e x)
      permitted_is_candidate

pub is_allowed_term : (columns : Columns) (p : Plan) (t : Term) → IsTruthOn columns (permitted_row columns p false) t → IsAllowedTerm p columns t
is_allowed_term columns p t is parameters row later e x represents =
    is parameters row later e x represents ∙ ap (λ (b : Bool). from_truth (Some b)) (row_is_allow columns p e x)

pub is_candidate_term : (columns : Columns) (p : Plan) (t : Term) → IsTruthOn columns (permitted_row columns p true) t → IsCandidateTerm p columns t
is_candidate_term columns p t is parameters row later e x represents =
    is parameters row later e x represents ∙ ap (λ (b : Bool). from_truth (Some b)) (row_is_candidate columns p e x)
