-- What a plan has of a response: the ids of the policies that are satisfied, and what each residual one asks of a row.
use Rattle.std.specs.Prelude.{◌≡◌, Bool, true, false, List, [], ◌∷◌, map, Option, Some, None, option_map}
use Rattle.std.specs.Rc.{rc_str_bytes}
use Rattle.cedar_model.specs.Terms.{Text, ValueType, Term}
use Rattle.cedar_model.specs.Policies.{permit, forbid, ErrorHandling}
use Rattle.cedar_model.specs.Responses.{Row, clause_of}
use Rattle.cedar_model.specs.Chains.{has_limit}
use Rattle.cedar_model.specs.Reports.{ids, trues, residuals}
use Rattle.cedar_decisions.specs.Decisions.{mode_view}
use Rattle.cedar_names.specs.Leaves.{type_view}
use Rattle.cedar_names.specs.UnknownFields.{UnknownFields}
use Rattle.cedar_expressions.specs.View.{view}
use Rattle.cedar_layers.specs.declared.policies.policy.PolicyID.{PolicyID}
use Rattle.cedar_layers.specs.Policies.{policy_id_text}
use Rattle.cedar_authorizer.specs.declared.responses.err.AuthorizationError.{AuthorizationError}
use Rattle.cedar_authorizer.specs.declared.responses.partial_response.PartialResponse.{PartialResponse}
use Rattle.cedar_authorizer.specs.responses.Responses.{errors_view}
use Rattle.cedar_authorizer.specs.responses.Rows.{mode_of, rows_view}
use Rattle.cedar_authorizer.specs.Running.{errors_of}
use Rattle.cedar_filter.specs.Simplifying.{simplified}
use Rattle.cedar_filter.specs.Faults.{condition_fault}
use Rattle.cedar_filter.specs.Filters.{filter_row, filter_term}
use Rattle.cedar_plan.specs.declared.conditions.RowCondition.{RowCondition}
use Rattle.cedar_plan.specs.declared.conditions.RowCondition.TheVariants as conditions
use Rattle.cedar_plan.specs.declared.policies.RowPolicy.{RowPolicy}
use Rattle.cedar_plan.specs.declared.policies.PlannedPolicies.{PlannedPolicies}
use Rattle.cedar_plan.specs.declared.planning.NoPlan.{NoPlan}
use Rattle.cedar_plan.specs.declared.planning.NoPlan.TheVariants as refusals
use Rattle.cedar_plan.specs.declared.plans.Plan.{Plan}

-- what a residual asks of a row: a condition, on rows that stand for the unknown of this name with this annotation; or
-- it is no condition on one row, and this is the first part that is none
pub data Planned : Type 0 where
  filter_of : Text → Option ValueType → Term → Planned
  rest_of : Term → Planned

module _ (n : Text) (a : Option ValueType) where
  -- by the part at fault, if there is one
  abbrev pub planned_by : Option Term → Term → Planned
  planned_by None t = filter_of n a t
  planned_by (Some part) t = rest_of part

  abbrev pub planned_of : Term → Planned
  planned_of t = planned_by (condition_fault n a t) t

  -- what a residual asks, simplified
  abbrev pub planned : Term → Planned
  planned t = planned_of (simplified t)

  -- the same under the policy's id
  abbrev pub planned_row : Row → Text × Planned
  planned_row r = (r.id, planned (clause_of r.reported))

-- ---- as plain data

abbrev pub condition_view : RowCondition → Planned
condition_view (conditions.Filter f) =
    filter_of (rc_str_bytes (filter_row f).name) (option_map type_view (filter_row f).type_annotation) (filter_term f)
condition_view (conditions.Rest e) = rest_of (view e)

abbrev pub row_policy_view : RowPolicy → Text × Planned
row_policy_view p = (policy_id_text p.id, condition_view p.condition)

abbrev pub row_policies_view : List RowPolicy → List (Text × Planned)
row_policies_view ps = map row_policy_view ps

abbrev pub ids_view : List PolicyID → List Text
ids_view is = map policy_id_text is

-- the policies of an effect that are satisfied, and those that are residual
abbrev pub satisfied_in : PlannedPolicies → List PolicyID
satisfied_in p = p.satisfied.items

abbrev pub residuals_in : PlannedPolicies → List RowPolicy
residuals_in p = p.residuals.items

-- whether there is one
unfoldable pub some_of : {A : Type 0} → List A → Bool
some_of [] = false
some_of (x ∷ xs) = true

-- ---- plans

abbrev pub plan_row : Plan → UnknownFields
plan_row p = p.row

abbrev pub plan_mode : Plan → ErrorHandling
plan_mode p = mode_view p.error_handling

abbrev pub plan_permits : Plan → PlannedPolicies
plan_permits p = p.permits

abbrev pub plan_forbids : Plan → PlannedPolicies
plan_forbids p = p.forbids

abbrev pub plan_errors : Plan → List AuthorizationError
plan_errors p = p.errors.items

-- the name and the annotation of the unknown that the rows stand for
abbrev pub row_name : Plan → Text
row_name p = rc_str_bytes (plan_row p).name

abbrev pub row_type : Plan → Option ValueType
row_type p = option_map type_view (plan_row p).type_annotation

-- a plan has the policies of an effect, those that are satisfied and what each residual one asks
pub record HasPolicies (n : Text) (a : Option ValueType) (true_rows residual_rows : List Row)
    (p : PlannedPolicies) : Type 0 where
  pub satisfied : ids_view (satisfied_in p) ≡ ids true_rows
  pub asked : row_policies_view (residuals_in p) ≡ map (planned_row n a) residual_rows

-- the plan of a response: its true policies and its residual ones, in order; its errors, and how it handles them
pub record IsPlanOf (r : PartialResponse) (p : Plan) : Type 0 where
  pub mode : plan_mode p ≡ mode_of r
  pub permits : HasPolicies (row_name p) (row_type p) (trues permit (rows_view r)) (residuals permit (rows_view r))
      (plan_permits p)
  pub forbids : HasPolicies (row_name p) (row_type p) (trues forbid (rows_view r)) (residuals forbid (rows_view r))
      (plan_forbids p)
  pub errors : errors_view (plan_errors p) ≡ errors_of r

-- no plan for the recursion limit, where it is recorded
abbrev pub IsNoPlan : PartialResponse → NoPlan → Type 0
IsNoPlan r refusals.RecursionLimit = has_limit (errors_of r) ≡ true
IsNoPlan r refusals.Memory = Unit {0}
