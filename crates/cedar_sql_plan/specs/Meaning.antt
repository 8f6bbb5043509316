-- What the SQL expressions of a plan are worth on a row: 1 or 0, never NULL.
use Rattle.std.specs.Prelude.{◌≡◌, Bool, true, false, not, ◌&&◌, ◌||◌, List, Option, Some, None}
use Rattle.sqlite_value.specs.Order.{Row}
use Rattle.sqlite_sql.specs.declared.ops.UnaryOp.TheVariants.{Not}
use Rattle.sqlite_sql.specs.declared.ops.BinaryOp.TheVariants as by
use Rattle.sqlite_sql.specs.Ops.{from_truth}
use Rattle.sqlite_sql.specs.Term.{Term, op1, op2, eval}
use Rattle.cedar_model.specs.Terms.{EntityName}
use Rattle.cedar_model.specs.Settings.{StoredEntity}
use Rattle.cedar_model.specs.Policies.{forbid, allow, deny}
use Rattle.cedar_filter.specs.declared.filters.Filter.{Filter}
use Rattle.cedar_filter.specs.Faults.{can_stand_for}
use Rattle.cedar_plan.specs.declared.conditions.RowCondition.{RowCondition}
use Rattle.cedar_plan.specs.declared.policies.RowPolicy.{RowPolicy}
use Rattle.cedar_plan.specs.declared.policies.PlannedPolicies.{PlannedPolicies}
use Rattle.cedar_plan.specs.declared.plans.Plan.{Plan}
use Rattle.cedar_plan.specs.Planned.{row_type, plan_mode, plan_permits, plan_forbids, residuals_in, satisfied_in, some_of}
use Rattle.cedar_plan.specs.Told.{errs_count}
use Rattle.cedar_plan.specs.Worlds.{IsToldOf, DecidesAt}
use Rattle.cedar_sql.specs.declared.columns.Columns.{Columns}
use Rattle.cedar_sql.specs.declared.answers.NoSql.{NoSql}
use Rattle.cedar_sql.specs.declared.answers.NoSql.TheVariants as refusals
use Rattle.cedar_sql.specs.Columns.{Represents}
use Rattle.cedar_sql.specs.Terms.{row_env, is_truth}
use Rattle.cedar_sql_plan.specs.Said.{said_counts, some_said, some_count, some_open, some_unsaid, said_decision}
use Rattle.cedar_sql_plan.specs.Said.{is_allow, is_deny}

-- on each row of the table, the expression is 1 or 0 as this holds of the entity of that row or not
abbrev pub IsTruthOn : Columns → (EntityName → StoredEntity → Bool) → Term → Type 0
IsTruthOn columns holds t =
    (parameters row : Row) (later : List Row) (e : EntityName) (x : StoredEntity) → Represents columns row e x
    → eval t (row_env parameters row later) ≡ from_truth (Some (holds e x))

-- ---- policies of one effect

-- whether a condition counts: where it is true; or, if an erring one counts, where it is not false
abbrev pub counted : Bool → Term → Term
counted false t = is_truth t true
counted true t = op1 Not (is_truth t false)

abbrev pub joined : Term → Term → Term
joined s t = op2 by.Or s t

-- whether one of the policies counts that are said
abbrev pub IsCount : Columns → Bool → List RowPolicy → Term → Type 0
IsCount columns errs ps t = IsTruthOn columns (λ e x. some_said columns errs e x ps) t

-- whether one is satisfied, whatever the row is, or is open and counts so
abbrev pub is_known : Columns → Bool → PlannedPolicies → Bool
is_known columns with_open p = some_of (satisfied_in p) || (with_open && some_open columns p)

-- whether one of the policies counts; or, with those that are open, may count
abbrev pub some_may : Columns → Bool → Bool → PlannedPolicies → EntityName → StoredEntity → Bool
some_may columns errs with_open p e x =
    is_known columns with_open p || some_said columns errs e x (residuals_in p)

abbrev pub IsCountOf : Columns → Bool → Bool → PlannedPolicies → Term → Type 0
IsCountOf columns errs with_open p t = IsTruthOn columns (some_may columns errs with_open p) t

-- the first term, a truth, or the condition counts
abbrev pub AddsCount : Columns → Bool → RowCondition → Term → Term → Type 0
AddsCount columns errs c s t =
    (holds : EntityName → StoredEntity → Bool) → IsTruthOn columns holds s
    → IsTruthOn columns (λ e x. holds e x || said_counts columns errs e x c) t

-- the refusal names a part
abbrev pub IsPart : NoSql → Type 0
IsPart (refusals.Part c) = Unit {0}
IsPart refusals.Memory = ⊥

-- ---- plans

-- whether a permit counts and no forbid does: of those that are open no permit and each forbid or, `may_be`, each permit
-- and no forbid
abbrev pub permitted : Columns → Plan → Bool → EntityName → StoredEntity → Bool
permitted columns p may_be e x =
    some_may columns false may_be (plan_permits p) e x
    && not (some_may columns (errs_count (plan_mode p) forbid) (not may_be) (plan_forbids p) e x)

-- the same of entities that can stand for the unknown
abbrev pub permitted_row : Columns → Plan → Bool → EntityName → StoredEntity → Bool
permitted_row columns p may_be e x = can_stand_for (row_type p) e && permitted columns p may_be e x

abbrev pub but_not : Term → Term → Term
but_not s t = op2 by.And s (op1 Not t)

-- 1 exactly on the rows that can stand for the unknown and at which the policies that are said decide Allow, whatever the
-- others do
abbrev pub IsAllowedTerm : Plan → Columns → Term → Type 0
IsAllowedTerm p columns t = IsTruthOn columns (λ e x. is_allow (said_decision columns p e x)) t

-- 1 exactly on the rows that can stand for the unknown and at which they do not decide Deny, whatever the others do
abbrev pub IsCandidateTerm : Plan → Columns → Term → Type 0
IsCandidateTerm p columns t =
    IsTruthOn columns (λ e x. can_stand_for (row_type p) e && not (is_deny (said_decision columns p e x))) t

-- where this is 1, the row can stand for the unknown, the plan tells Allow, and so the policies decide
abbrev pub ShowsAllowed : Plan → Columns → Term → Type 0
ShowsAllowed p columns t =
    (parameters row : Row) (later : List Row) (e : EntityName) (x : StoredEntity) → Represents columns row e x
    → eval t (row_env parameters row later) ≡ from_truth (Some true)
    → (can_stand_for (row_type p) e ≡ true) × IsToldOf p e x (Some allow) × DecidesAt p e x allow

-- where this is 0 and the row can stand for the unknown, the plan tells Deny, and so the policies decide
abbrev pub LeavesOutDenied : Plan → Columns → Term → Type 0
LeavesOutDenied p columns t =
    (parameters row : Row) (later : List Row) (e : EntityName) (x : StoredEntity) → Represents columns row e x
    → can_stand_for (row_type p) e ≡ true → eval t (row_env parameters row later) ≡ from_truth (Some false)
    → IsToldOf p e x (Some deny) × DecidesAt p e x deny
