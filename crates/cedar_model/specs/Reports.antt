-- What a response says: its decision, the policies that must and may determine it, what it comes out as when it is
-- made concrete, and its other readers. All are functions of its rows, and the policies that they name are the rows as
-- they are carried on.
use Rattle.std.specs.Prelude.{◌≡◌, Bool, true, false, cond, not, ◌&&◌, ◌||◌, List, [], ◌∷◌, ◌++◌, map, Option, Some}
use Rattle.std.specs.Prelude.{None}
use Rattle.cedar_model.specs.Terms.{Text}
use Rattle.cedar_model.specs.Outcomes.{text_eq, has_text}
use Rattle.cedar_model.specs.Failures.{Failure, residual_is_left}
use Rattle.cedar_model.specs.Policies.{Effect, permit, forbid, Policy, Verdict, satisfied, unsatisfied, erring}
use Rattle.cedar_model.specs.Policies.{Judged, Decision, allow, deny}
use Rattle.cedar_model.specs.Policies.{ErrorHandling, skip, forbid_on_error}
use Rattle.cedar_model.specs.Responses.{Reported, reported_true, reported_false, reported_residual, Row, clause_of}
use Rattle.cedar_model.specs.Responses.{carried}
use Rattle.cedar_model.specs.Chains.{is_true, is_false, is_residual, rows_of}
use Rattle.cedar_model.specs.Authorizations.{Authorized}

unfoldable pub some_row : List Row → Bool
some_row [] = false
some_row (r ∷ rs) = true

abbrev pub ids : List Row → List Text
ids rows = map (λ r. r.id) rows

-- true, false and residual rows of an effect
abbrev pub trues : Effect → List Row → List Row
trues effect rows = rows_of effect is_true rows

abbrev pub falses : Effect → List Row → List Row
falses effect rows = rows_of effect is_false rows

abbrev pub residuals : Effect → List Row → List Row
residuals effect rows = rows_of effect is_residual rows

-- ---- decision

-- Deny with a true forbid, or where no permit is true or residual; else none beside a residual forbid; else Allow
-- with a true permit
abbrev pub given_decision : List Row → Option Decision
given_decision rows =
    cond (some_row (trues forbid rows)) (Some deny)
    (cond (not (some_row (trues permit rows) || some_row (residuals permit rows))) (Some deny)
    (cond (some_row (residuals forbid rows)) None (cond (some_row (trues permit rows)) (Some allow) None)))

-- the true forbids or, where no forbid is true or residual, the true permits
abbrev pub must_determine : List Row → List Row
must_determine rows =
    cond (some_row (trues forbid rows) || some_row (residuals forbid rows)) (trues forbid rows) (trues permit rows)

-- with a true forbid the true and the residual forbids, else the true and the residual permits, and the residual
-- forbids
abbrev pub may_determine : List Row → List Row
may_determine rows =
    cond (some_row (trues forbid rows)) (trues forbid rows ++ residuals forbid rows)
    (trues permit rows ++ (residuals permit rows ++ residuals forbid rows))

-- ---- made concrete

-- Allow where a permit is true and no forbid is; where erring forbids count, and no forbid is residual either
abbrev pub concrete_decision : ErrorHandling → List Row → Decision
concrete_decision skip rows = cond (some_row (trues permit rows) && not (some_row (trues forbid rows))) allow deny
concrete_decision forbid_on_error rows =
    cond (some_row (trues permit rows) && not (some_row (trues forbid rows) || some_row (residuals forbid rows)))
    allow deny

-- those that must determine the decision; where erring forbids count, the true and the residual forbids or, with none,
-- the true permits
abbrev pub concrete_reasons : ErrorHandling → List Row → List Row
concrete_reasons skip rows = must_determine rows
concrete_reasons forbid_on_error rows =
    cond (some_row (trues forbid rows) || some_row (residuals forbid rows))
    (trues forbid rows ++ residuals forbid rows) (trues permit rows)

-- that its residual is left
abbrev pub residual_error : Row → (Text × Failure)
residual_error r = (r.id, residual_is_left (clause_of r.reported))

-- of residual forbids, then of residual permits, then those recorded
abbrev pub concrete_errors : List Row → List (Text × Failure) → List (Text × Failure)
concrete_errors rows errors =
    map residual_error (residuals forbid rows) ++ (map residual_error (residuals permit rows) ++ errors)

-- the decision, the ids of the reasons, and these errors
abbrev pub concretized : ErrorHandling → List Row → List (Text × Failure) → Authorized
concretized mode rows errors = record {
  decided_as = concrete_decision mode rows;
  is_reason = λ t. has_text t (ids (concrete_reasons mode rows));
  errors = concrete_errors rows errors;
}

-- ---- other readers

unfoldable pub is_errored : Reported → Bool
is_errored reported_true = false
is_errored (reported_false e) = e
is_errored (reported_residual t) = false

-- the true policies, permits first
abbrev pub definitely_satisfied : List Row → List Policy
definitely_satisfied rows = map carried (trues permit rows ++ trues forbid rows)

-- the ids of the false ones with an error
abbrev pub definitely_errored : List Row → List Text
definitely_errored rows = ids (rows_of permit is_errored rows ++ rows_of forbid is_errored rows)

-- the residual ones
abbrev pub nontrivial_residuals : List Row → List Policy
nontrivial_residuals rows = map carried (residuals permit rows ++ residuals forbid rows)

abbrev pub nontrivial_residual_ids : List Row → List Text
nontrivial_residual_ids rows = ids (residuals permit rows ++ residuals forbid rows)

-- the residual forbids
abbrev pub nontrivial_forbids : List Row → List Policy
nontrivial_forbids rows = map carried (residuals forbid rows)

-- those that must and may determine the decision
abbrev pub must_be_determining : List Row → List Policy
must_be_determining rows = map carried (must_determine rows)

abbrev pub may_be_determining : List Row → List Policy
may_be_determining rows = map carried (may_determine rows)

unfoldable pub policy_with_id : Text → List Row → Option Policy
policy_with_id id [] = None
policy_with_id id (r ∷ rs) = cond (text_eq id r.id) (Some (carried r)) (policy_with_id id rs)

abbrev pub in_order_of_get : Effect → List Row → List Row
in_order_of_get effect rows = residuals effect rows ++ (trues effect rows ++ falses effect rows)

-- the policy under an id: among residual, true, false permits, then the same of forbids
abbrev pub get : Text → List Row → Option Policy
get id rows = policy_with_id id (in_order_of_get permit rows ++ in_order_of_get forbid rows)

-- ---- rows as verdicts

-- no residual is among the rows
abbrev pub HaveNoResidual : List Row → Type 0
HaveNoResidual rows = (residuals permit rows ≡ []) × (residuals forbid rows ≡ [])

-- a policy that is false with an error errs; a forbid, where an erring one counts, is unsatisfied
unfoldable pub false_verdict : ErrorHandling → Effect → Verdict
false_verdict skip effect = erring
false_verdict forbid_on_error permit = erring
false_verdict forbid_on_error forbid = unsatisfied

-- what is reported, as a verdict; a residual is no bool
unfoldable pub reported_verdict : ErrorHandling → Effect → Reported → Verdict
reported_verdict mode effect reported_true = satisfied
reported_verdict mode effect (reported_false true) = false_verdict mode effect
reported_verdict mode effect (reported_false false) = unsatisfied
reported_verdict mode effect (reported_residual t) = erring

abbrev pub judged_row : ErrorHandling → Row → Judged
judged_row mode r = record { id = r.id; effect = r.effect; verdict_of = reported_verdict mode r.effect r.reported }
