-- What an authorization has noted of its policies so far.
use Rattle.std.specs.Prelude.{List, [], ◌∷◌, ◌++◌, Option, None, Some}
use Rattle.cedar_model.specs.Terms.{Text}
use Rattle.cedar_model.specs.Failures.{Failure}
use Rattle.cedar_model.specs.Policies.{permit, forbid, ErrorHandling}
use Rattle.cedar_model.specs.Responses.{Decided, decides, leaves, errs_with, reported_of, counted_report, error_of}
use Rattle.cedar_model.specs.Responses.{with_error}
use Rattle.cedar_model.specs.Chains.{is_true, is_false, is_residual}
use Rattle.cedar_expressions.specs.declared.expr.Expr.{Expr}
use Rattle.cedar_expressions.specs.View.{view}
use Rattle.cedar_layers.specs.Policies.{PolicyView}
use Rattle.cedar_errors.specs.Failures.{failure_of}
use Rattle.cedar_authorizer.specs.declared.responses.sheet.ConditionOutcome.{ConditionOutcome}
use Rattle.cedar_authorizer.specs.declared.responses.sheet.ConditionOutcome.TheVariants as outcomes
use Rattle.cedar_authorizer.specs.declared.responses.sheet.Sheet.{Sheet}
use Rattle.cedar_authorizer.specs.responses.Responses.{errors_view}
use Rattle.cedar_authorizer.specs.responses.Rows.{Located, located, true_rows, false_rows, residual_rows, located_of}

abbrev pub outcome_view : ConditionOutcome → Decided
outcome_view (outcomes.Decided b) = decides b
outcome_view (outcomes.Residual e) = leaves (view e.value)
outcome_view (outcomes.Failed e) = errs_with (failure_of e)

-- the residual, whole, where one is left
abbrev pub outcome_residual : ConditionOutcome → Option Expr
outcome_residual (outcomes.Decided b) = None
outcome_residual (outcomes.Residual e) = Some e.value
outcome_residual (outcomes.Failed e) = None

-- the row of a policy whose condition came out so
abbrev pub placed_row : ErrorHandling → PolicyView → ConditionOutcome → Located
placed_row mode p o =
    located p.effect p.id p.annotations (counted_report mode p.effect (reported_of (outcome_view o)))
    (outcome_residual o)

-- rows by effect and report, and the errors
pub record Noted : Type 0 where
  pub true_permits : List Located
  pub false_permits : List Located
  pub residual_permits : List Located
  pub true_forbids : List Located
  pub false_forbids : List Located
  pub residual_forbids : List Located
  pub errors : List (Text × Failure)

abbrev pub sheet_view : Sheet → Noted
sheet_view s = record {
  true_permits = true_rows permit s.true_permits.items;
  false_permits = false_rows permit s.false_permits.items;
  residual_permits = residual_rows permit s.residual_permits.items;
  true_forbids = true_rows forbid s.true_forbids.items;
  false_forbids = false_rows forbid s.false_forbids.items;
  residual_forbids = residual_rows forbid s.residual_forbids.items;
  errors = errors_view s.errors.items;
}

-- rows in the policies' order, and errors, as they stand on a sheet
abbrev pub sorted : List Located → List (Text × Failure) → Noted
sorted ls errors = record {
  true_permits = located_of permit is_true ls;
  false_permits = located_of permit is_false ls;
  residual_permits = located_of permit is_residual ls;
  true_forbids = located_of forbid is_true ls;
  false_forbids = located_of forbid is_false ls;
  residual_forbids = located_of forbid is_residual ls;
  errors = errors;
}

abbrev pub nothing_noted : Noted
nothing_noted = record {
  true_permits = [];
  false_permits = [];
  residual_permits = [];
  true_forbids = [];
  false_forbids = [];
  residual_forbids = [];
  errors = [];
}

-- what is noted once one more row and its error, if it has one, are
abbrev pub noted_also : Noted → Located → Option Failure → Noted
noted_also s l e = record {
  true_permits = s.true_permits ++ located_of permit is_true (l ∷ []);
  false_permits = s.false_permits ++ located_of permit is_false (l ∷ []);
  residual_permits = s.residual_permits ++ located_of permit is_residual (l ∷ []);
  true_forbids = s.true_forbids ++ located_of forbid is_true (l ∷ []);
  false_forbids = s.false_forbids ++ located_of forbid is_false (l ∷ []);
  residual_forbids = s.residual_forbids ++ located_of forbid is_residual (l ∷ []);
  errors = s.errors ++ with_error l.row.id e [];
}

-- what is noted once the condition of one more policy came out so
abbrev pub noting : ErrorHandling → Noted → PolicyView → ConditionOutcome → Noted
noting mode s p o = noted_also s (placed_row mode p o) (error_of (outcome_view o))
