-- What the policies of a plan decide of an entity, as far as SQL says them on a table's columns.
use Rattle.std.specs.Prelude.{Bool, true, false, cond, not, ◌&&◌, ◌||◌, List, [], ◌∷◌, Option, Some, None, is_none}
use Rattle.std.specs.Rc.{rc_str_bytes}
use Rattle.cedar_model.specs.Terms.{EntityName}
use Rattle.cedar_model.specs.Settings.{StoredEntity}
use Rattle.cedar_model.specs.Policies as model
use Rattle.cedar_model.specs.Policies.{forbid}
use Rattle.cedar_decisions.specs.Decisions.{known_decision}
use Rattle.cedar_filter.specs.declared.filters.Filter.{Filter}
use Rattle.cedar_filter.specs.Rows.{Told, condition_told}
use Rattle.cedar_filter.specs.Filters.{filter_row, filter_condition, filter_term}
use Rattle.cedar_filter.specs.Faults.{can_stand_for}
use Rattle.cedar_plan.specs.declared.conditions.RowCondition.{RowCondition}
use Rattle.cedar_plan.specs.declared.conditions.RowCondition.TheVariants as conditions
use Rattle.cedar_plan.specs.declared.policies.RowPolicy.{RowPolicy}
use Rattle.cedar_plan.specs.declared.policies.PlannedPolicies.{PlannedPolicies}
use Rattle.cedar_plan.specs.declared.plans.Plan.{Plan}
use Rattle.cedar_plan.specs.Planned.{row_type, plan_mode, plan_permits, plan_forbids, satisfied_in, residuals_in, some_of}
use Rattle.cedar_plan.specs.Told.{errs_count, counts_as, is_counted}
use Rattle.cedar_sql.specs.declared.columns.Columns.{Columns}
use Rattle.cedar_sql.specs.Said.{unsaid}

module _ (columns : Columns) where
  -- ---- which policies SQL says

  -- a condition on rows of which each part is one in SQL
  abbrev pub is_said : RowCondition → Bool
  is_said (conditions.Filter f) = is_none (unsaid columns (filter_condition f))
  is_said (conditions.Rest part) = false

  -- whether one of the policies is not said
  unfoldable pub some_unsaid : List RowPolicy → Bool
  some_unsaid [] = false
  some_unsaid (p ∷ ps) = not (is_said p.condition) || some_unsaid ps

  -- ---- which of them count as satisfied

  module _ (errs : Bool) (e : EntityName) (x : StoredEntity) where
    -- what the entity tells of a filter
    abbrev pub filter_told : Filter → Told
    filter_told f = condition_told (rc_str_bytes (filter_row f).name) e x (filter_term f)

    -- whether a policy that is said counts; one that is not does not
    abbrev pub said_counts : RowCondition → Bool
    said_counts (conditions.Filter f) =
        is_none (unsaid columns (filter_condition f)) && is_counted (counts_as errs (filter_told f))
    said_counts (conditions.Rest part) = false

    unfoldable pub some_said : List RowPolicy → Bool
    some_said [] = false
    some_said (p ∷ ps) = said_counts p.condition || some_said ps

    -- the same, or one of the policies is satisfied whatever the row is
    abbrev pub some_count : PlannedPolicies → Bool
    some_count p = some_of (satisfied_in p) || some_said (residuals_in p)

  abbrev pub some_open : PlannedPolicies → Bool
  some_open p = some_unsaid (residuals_in p)

  -- ---- the decision

  -- the decision that they give, whatever the policies do that are not said
  abbrev pub decision_by_said : Plan → EntityName → StoredEntity → Option model.Decision
  decision_by_said p e x =
      known_decision (some_count false e x (plan_permits p)) (some_open (plan_permits p))
      (some_count (errs_count (plan_mode p) forbid) e x (plan_forbids p)) (some_open (plan_forbids p))

  -- the same of an entity that can stand for the unknown; of another none
  abbrev pub said_decision : Plan → EntityName → StoredEntity → Option model.Decision
  said_decision p e x = cond (can_stand_for (row_type p) e) (decision_by_said p e x) None

abbrev pub is_allow : Option model.Decision → Bool
is_allow None = false
is_allow (Some model.allow) = true
is_allow (Some model.deny) = false

abbrev pub is_deny : Option model.Decision → Bool
is_deny None = false
is_deny (Some model.allow) = false
is_deny (Some model.deny) = true
