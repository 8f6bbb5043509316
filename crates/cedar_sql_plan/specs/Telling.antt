-- What the policies that SQL says decide is what the plan tells.
use Rattle.std.specs.Prelude.{◌≡◌, List, Option, None, Some}
use Rattle.std.specs.List.{AllByRecursion}
use Rattle.sqlite_value.specs.Order.{Row}
use Rattle.cedar_model.specs.Terms.{EntityName}
use Rattle.cedar_model.specs.Settings.{StoredEntity}
use Rattle.cedar_model.specs.Policies as model
use Rattle.cedar_filter.specs.Filters.{filter_condition}
use Rattle.cedar_plan.specs.declared.conditions.RowCondition.TheVariants as conditions
use Rattle.cedar_plan.specs.declared.policies.RowPolicy.{RowPolicy}
use Rattle.cedar_plan.specs.declared.conditions.RowCondition.{RowCondition}
use Rattle.cedar_plan.specs.declared.plans.Plan.{Plan}
use Rattle.cedar_plan.specs.Planned.{plan_permits, plan_forbids, residuals_in}
use Rattle.cedar_plan.specs.Worlds.{IsToldOf}
use Rattle.cedar_sql.specs.declared.columns.Columns.{Columns}
use Rattle.cedar_sql.specs.Columns.{Represents}
use Rattle.cedar_sql.specs.Said.{unsaid}
use Rattle.cedar_sql_plan.specs.Said.{said_decision}

-- the entity of a row of the table
abbrev pub OfEachEntity : Columns → (EntityName → StoredEntity → Type 0) → Type 0
OfEachEntity columns Fact =
    (row : Row) (e : EntityName) (x : StoredEntity) → Represents columns row e x → Fact e x

-- a decision that they give is told
abbrev pub SaidIsTold : Plan → Columns → Type 0
SaidIsTold p columns =
    OfEachEntity columns (λ e x. (d : model.Decision) → said_decision columns p e x ≡ Some d → IsToldOf p e x (Some d))

-- SQL says a policy, if it is a filter
abbrev pub IsSaidIfFilter : Columns → RowCondition → Type 0
IsSaidIfFilter columns (conditions.Filter f) = unsaid columns (filter_condition f) ≡ None
IsSaidIfFilter columns (conditions.Rest part) = Unit {0}

abbrev pub AreSaid : Columns → List RowPolicy → Type 0
AreSaid columns ps = AllByRecursion (λ (p : RowPolicy). IsSaidIfFilter columns p.condition) ps

-- where SQL says each filter, what is told is what they decide, and of another type's entity nothing is
abbrev pub SaidIsAllThatIsTold : Plan → Columns → Type 0
SaidIsAllThatIsTold p columns =
    AreSaid columns (residuals_in (plan_permits p)) → AreSaid columns (residuals_in (plan_forbids p))
    → OfEachEntity columns (λ e x. IsToldOf p e x (said_decision columns p e x))
