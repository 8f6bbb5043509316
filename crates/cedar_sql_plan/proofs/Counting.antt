-- The policies of one effect, and a whole plan, as the program answers them.
use Rattle.std.specs.Prelude.{ℤ, pos, IfOk, Result, Ok, Err}
use Rattle.std.specs.declared.alloc.AllocError.{AllocError}
use Rattle.std.proofs.Common.{◌≡◌, ◌∙◌, Bool, true, false, not, ◌||◌, Option, Some, None, refl, sym, ap, subst}
use Rattle.sqlite_value.specs.Order.{Row}
use Rattle.sqlite_sql.specs.Ops.{from_truth}
use Rattle.sqlite_sql.specs.Term.{Term, eval}
use Rattle.cedar_model.specs.Terms.{EntityName}
use Rattle.cedar_model.specs.Settings.{StoredEntity}
use Rattle.cedar_model.specs.Policies.{forbid}
use Rattle.cedar_plan.specs.declared.policies.PlannedPolicies.{PlannedPolicies}
use Rattle.cedar_plan.specs.declared.plans.Plan.{Plan}
use Rattle.cedar_plan.specs.Planned.{plan_mode, plan_permits, plan_forbids, residuals_in}
use Rattle.cedar_plan.specs.Told.{errs_count}
use Rattle.cedar_sql.specs.declared.columns.Columns.{Columns}
use Rattle.cedar_sql.specs.declared.terms.SqlTerm.{SqlTerm}
use Rattle.cedar_sql.specs.declared.terms.SqlTerm.TheVariants as terms
use Rattle.cedar_sql.specs.Columns.{Represents}
use Rattle.cedar_sql.specs.Terms.{row_env, sql_term, number}
use Rattle.cedar_sql_plan.specs.Said.{some_said}
use Rattle.cedar_sql_plan.specs.Meaning.{IsTruthOn, IsCount, IsCountOf, is_known, some_may, permitted, permitted_row, but_not}
use Rattle.cedar_sql_plan.specs.Meaning.{IsAllowedTerm, IsCandidateTerm, ShowsAllowed, LeavesOutDenied}
use Rattle.cedar_sql_plan.proofs.Truths.{but_not_truth}
use Rattle.cedar_sql_plan.proofs.Deciding.{is_allowed_term, is_candidate_term}
use Rattle.cedar_sql_plan.proofs.Telling.{shows_allowed, leaves_out_denied}

-- ---- one effect

known_counts : (known said : Bool) → known ≡ true → from_truth (Some true) ≡ from_truth (Some (known || said))
known_counts known said is = ap (λ (b : Bool). from_truth (Some (b || said))) (sym is)

module _ (columns : Columns) (errs with_open : Bool) (p : PlannedPolicies) where
  pub count_is_known : is_known columns with_open p ≡ true → IsCountOf columns errs with_open p (number (pos 1))
  count_is_known is parameters row later e x represents =
      known_counts (is_known columns with_open p) (some_said columns errs e x (residuals_in p)) is

  count_is_said : (t : Term) → is_known columns with_open p ≡ false → IsCount columns errs (residuals_in p) t
      → IsCountOf columns errs with_open p t
  count_is_said t is counts parameters row later e x represents =
      counts parameters row later e x represents
      ∙ ap (λ (b : Bool). from_truth (Some (b || some_said columns errs e x (residuals_in p)))) (sym is)

  pub each_count_is_said : (r : Result SqlTerm AllocError) → is_known columns with_open p ≡ false
      → IfOk r (λ t. IsCount columns errs (residuals_in p) (sql_term t))
      → IfOk r (λ t. IsCountOf columns errs with_open p (sql_term t))
  each_count_is_said (Ok t) is counts = count_is_said (sql_term t) is counts
  each_count_is_said (Err e) is counts = tt

pub ruleset counting = (count_is_known, each_count_is_said)

-- the same of a result that is this, and of policies that are these
pub count_as : (columns : Columns) (errs with_open : Bool) (q p : PlannedPolicies) (r : Result SqlTerm AllocError) (t : SqlTerm)
    → r ≡ Ok t → q ≡ p → IfOk r (λ u. IsCountOf columns errs with_open q (sql_term u)) → IsCountOf columns errs with_open p (sql_term t)
count_as columns errs with_open q p r t is same counts =
    subst (λ (k : PlannedPolicies). IsCountOf columns errs with_open k (sql_term t)) same
    (subst (λ (s : Result SqlTerm AllocError). IfOk s (λ u. IsCountOf columns errs with_open q (sql_term u))) is counts)

-- ---- a plan

module _ (columns : Columns) (p : Plan) where
  permitted_is : (may_be : Bool) (s t u : Term) → IsCountOf columns false may_be (plan_permits p) s
      → IsCountOf columns (errs_count (plan_mode p) forbid) (not may_be) (plan_forbids p) t → u ≡ but_not s t
      → IsTruthOn columns (permitted columns p may_be) u
  permitted_is may_be s t u permits forbids same parameters row later e x represents =
      ap (λ (w : Term). eval w (row_env parameters row later)) same
      ∙ but_not_truth s t (row_env parameters row later) (some_may columns false may_be (plan_permits p) e x)
      (some_may columns (errs_count (plan_mode p) forbid) (not may_be) (plan_forbids p) e x)
      (permits parameters row later e x represents) (forbids parameters row later e x represents)

  pub each_permitted : (may_be : Bool) (s t : SqlTerm) (r : Result SqlTerm AllocError)
      → IsCountOf columns false may_be (plan_permits p) (sql_term s)
      → IsCountOf columns (errs_count (plan_mode p) forbid) (not may_be) (plan_forbids p) (sql_term t)
      → IfOk r (λ u. sql_term u ≡ but_not (sql_term s) (sql_term t))
      → IfOk r (λ u. IsTruthOn columns (permitted columns p may_be) (sql_term u))
  each_permitted may_be s t (Ok u) permits forbids same = permitted_is may_be (sql_term s) (sql_term t) (sql_term u) permits forbids same
  each_permitted may_be s t (Err e) permits forbids same = tt

  pub each_allowed : (r : Result SqlTerm AllocError) → IfOk r (λ t. IsTruthOn columns (permitted_row columns p false) (sql_term t))
      → IfOk r (λ t. IsAllowedTerm p columns (sql_term t))
  each_allowed (Ok t) is = is_allowed_term columns p (sql_term t) is
  each_allowed (Err e) is = tt

  pub each_candidate : (r : Result SqlTerm AllocError) → IfOk r (λ t. IsTruthOn columns (permitted_row columns p true) (sql_term t))
      → IfOk r (λ t. IsCandidateTerm p columns (sql_term t))
  each_candidate (Ok t) is = is_candidate_term columns p (sql_term t) is
  each_candidate (Err e) is = tt

  pub each_shown : (r : Result SqlTerm AllocError) → IfOk r (λ t. IsTruthOn columns (permitted_row columns p false) (sql_term t))
      → IfOk r (λ t. ShowsAllowed p columns (sql_term t))
  each_shown (Ok t) is = shows_allowed p columns (sql_term t) (is_allowed_term columns p (sql_term t) is)
  each_shown (Err e) is = tt

  pub each_left_out : (r : Result SqlTerm AllocError) → IfOk r (λ t. IsTruthOn columns (permitted_row columns p true) (sql_term t))
      → IfOk r (λ t. LeavesOutDenied p columns (sql_term t))
  each_left_out (Ok t) is = leaves_out_denied p columns (sql_term t) (is_candidate_term columns p (sql_term t) is)
  each_left_out (Err e) is = tt
