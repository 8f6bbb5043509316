-- A plan has the policies of its response.
use Rattle.std.proofs.Common.{◌≡◌, ◌∙◌, false, List, [], ◌∷◌, map, Option, refl, sym, ap}
use Rattle.cedar_model.specs.Terms.{Text, ValueType}
use Rattle.cedar_model.specs.Policies.{Effect, permit, forbid}
use Rattle.cedar_model.specs.Responses.{Row, clause_of}
use Rattle.cedar_model.specs.Reports.{ids, trues, residuals}
use Rattle.cedar_model.specs.Chains.{has_limit}
use Rattle.cedar_model.specs.Authorizations.{HaveNoLimit}
use Rattle.cedar_model.proofs.Limits.{none_has}
use Rattle.cedar_authorizer.specs.Running.{errors_of}
use Rattle.cedar_layers.specs.Policies.{policy_id_text}
use Rattle.cedar_authorizer.specs.declared.responses.partial_response.PartialResponse.{PartialResponse}
use Rattle.cedar_authorizer.specs.responses.Rows.{TrueEntry, ResidualEntry, true_rows, residual_rows, rows_in, rows_view}
use Rattle.cedar_authorizer.proofs.Rows.{trues_permit, residuals_permit, trues_forbid, residuals_forbid}
use Rattle.cedar_plan.specs.declared.policies.PlannedPolicies.{PlannedPolicies}
use Rattle.cedar_plan.specs.Planned.{planned_row, ids_view, satisfied_in, residuals_in, row_policies_view, HasPolicies}
use Rattle.cedar_plan.specs.Entries.{true_ids, planned_entries, planned_entry}

ids_in : (effect : Effect) (es : List TrueEntry) → true_ids es ≡ ids (rows_in (true_rows effect es))
ids_in effect [] = refl
ids_in effect (e ∷ es) = ap (λ (is : List Text). policy_id_text e.0 ∷ is) (ids_in effect es)

asked_in : (n : Text) (a : Option ValueType) (effect : Effect) (es : List ResidualEntry)
    → planned_entries n a es ≡ map (planned_row n a) (rows_in (residual_rows effect es))
unfolding clause_of
asked_in n a effect [] = refl
asked_in n a effect (e ∷ es) = ap (λ (ps : List _). planned_entry n a e ∷ ps) (asked_in n a effect es)

module _ (n : Text) (a : Option ValueType) (effect : Effect) (ts : List TrueEntry) (rs : List ResidualEntry)
    (true_ones residual_ones : List Row) (trues_are : true_ones ≡ rows_in (true_rows effect ts))
    (residuals_are : residual_ones ≡ rows_in (residual_rows effect rs)) (p : PlannedPolicies) where
  has_policies : ids_view (satisfied_in p) ≡ true_ids ts → row_policies_view (residuals_in p) ≡ planned_entries n a rs
      → HasPolicies n a true_ones residual_ones p
  has_policies satisfied asked = record {
    satisfied = satisfied ∙ ids_in effect ts ∙ sym (ap ids trues_are);
    asked = asked ∙ asked_in n a effect rs ∙ sym (ap (λ rows. map (planned_row n a) rows) residuals_are);
  }

module _ (n : Text) (a : Option ValueType) (r : PartialResponse) (p : PlannedPolicies) where
  pub has_permits : ids_view (satisfied_in p) ≡ true_ids r.satisfied_permits.entries
      → row_policies_view (residuals_in p) ≡ planned_entries n a r.residual_permits.entries
      → HasPolicies n a (trues permit (rows_view r)) (residuals permit (rows_view r)) p
  has_permits = has_policies n a permit _ _ _ _ (trues_permit r) (residuals_permit r) p

  pub has_forbids : ids_view (satisfied_in p) ≡ true_ids r.satisfied_forbids.entries
      → row_policies_view (residuals_in p) ≡ planned_entries n a r.residual_forbids.entries
      → HasPolicies n a (trues forbid (rows_view r)) (residuals forbid (rows_view r)) p
  has_forbids = has_policies n a forbid _ _ _ _ (trues_forbid r) (residuals_forbid r) p

pub quiet_errors : (r : PartialResponse) → has_limit (errors_of r) ≡ false → HaveNoLimit (errors_of r)
quiet_errors r h = none_has (errors_of r) h

pub ruleset quiet = (quiet_errors)
