-- What follows of a run: that it stands, and what it is once it is made concrete.
use Rattle.std.specs.Prelude.{◌≡◌, ℕ, Bool, true, false, cond, not, ◌||◌, ◌&&◌, List, ◌++◌, map, Option, Some, None}
use Rattle.std.proofs.Common.{refl, sym, ap, ◌∙◌, subst, append_assoc}
use Rattle.cedar_model.specs.Terms.{Text, bool_literal}
use Rattle.cedar_model.specs.Values.{plain}
use Rattle.cedar_model.specs.Outcomes.{has_text}
use Rattle.cedar_model.specs.World.{Functions}
use Rattle.cedar_model.specs.Failures.{Failure}
use Rattle.cedar_model.specs.Settings.{Setting}
use Rattle.cedar_model.specs.laws.Levels.{FunctionsMeetNoLimit}
use Rattle.cedar_model.specs.Rules.{StoredCalls}
use Rattle.cedar_model.specs.Agreement.{AgreesWithFunctions, HasNothingUnknown, own_world}
use Rattle.cedar_model.specs.Restricted.{IsGivenSound}
use Rattle.cedar_model.specs.Policies.{Policy, permit, forbid, Decision, allow, deny, ErrorHandling, skip, forbid_on_error}
use Rattle.cedar_model.specs.Reordering.{IsReordering}
use Rattle.cedar_model.specs.Responses.{Row}
use Rattle.cedar_model.specs.Chains.{rows_by}
use Rattle.cedar_model.specs.Authorizations.{Authorized, IsResponse, HaveNoLimit, HaveKnownConditions, HaveKinds, policy_errors}
use Rattle.cedar_model.specs.laws.Authorizations.{PolicyRuns}
use Rattle.cedar_model.specs.Reports.{some_row, ids, trues, falses, residuals, given_decision, concrete_decision, residual_error, concrete_errors, concretized, HaveNoResidual}
use Rattle.cedar_model.proofs.Chained.{sorted_is}
use Rattle.cedar_model.proofs.Concrete.{run_is_response}
use Rattle.cedar_model.proofs.Exactly as exactly
use Rattle.cedar_model.proofs.Recorded.{run_recordable}
use Rattle.cedar_model.proofs.Standing as standing
use Rattle.cedar_model.proofs.Configured.{configured_by}
use Rattle.cedar_authorizer.specs.declared.responses.partial_response.PartialResponse.{PartialResponse}
use Rattle.cedar_authorizer.specs.responses.Rows.{mode_of, located_view, rows_view}
use Rattle.cedar_authorizer.proofs.Rows.{trues_permit, falses_permit, residuals_permit, trues_forbid, falses_forbid}
use Rattle.cedar_authorizer.proofs.Rows.{residuals_forbid, chosen_rows}
use Rattle.cedar_authorizer.specs.Responding.{IsKnownResponse, IsKnownRun, MeetsNoLimit, OwnWorldCompletesCall}
use Rattle.cedar_authorizer.specs.Running.{errors_of, HoldsRows, IsRun, ResponseStands, IsDeepEnough, IsConcreteRun}
use Rattle.cedar_authorizer.proofs.Low.{run_is_deep}
use Rattle.cedar_authorizer.proofs.Runs.{run_known}

-- ---- rows of which the same are true, and the same are residual

abbrev decision_by : ErrorHandling → List Row → List Row → List Row → Decision
decision_by skip tp tf rf = cond (some_row tp && not (some_row tf)) allow deny
decision_by forbid_on_error tp tf rf = cond (some_row tp && not (some_row tf || some_row rf)) allow deny

abbrev reasons_by : ErrorHandling → List Row → List Row → List Row → List Row
reasons_by skip tp tf rf = cond (some_row tf || some_row rf) tf tp
reasons_by forbid_on_error tp tf rf = cond (some_row tf || some_row rf) (tf ++ rf) tp

abbrev concrete_by : ErrorHandling → List Row → List Row → List Row → List Row → List (Text × Failure) → Authorized
concrete_by mode tp rp tf rf errors = record {
  decided_as = decision_by mode tp tf rf;
  is_reason = λ t. has_text t (ids (reasons_by mode tp tf rf));
  errors = map residual_error rf ++ (map residual_error rp ++ errors);
}

-- they are made concrete alike
pub concretized_alike : (all rows : List Row) → trues permit all ≡ trues permit rows → residuals permit all ≡ residuals permit rows → trues forbid all ≡ trues forbid rows → residuals forbid all ≡ residuals forbid rows
    → (mode : ErrorHandling) (errors : List (Text × Failure)) → concretized mode all errors ≡ concretized mode rows errors
concretized_alike all rows tp rp tf rf skip errors = λ i. concrete_by skip (tp i) (rp i) (tf i) (rf i) errors
concretized_alike all rows tp rp tf rf forbid_on_error errors =
    λ i. concrete_by forbid_on_error (tp i) (rp i) (tf i) (rf i) errors

-- ---- the rows of a response

module _ (rows : List Row) (r : PartialResponse) (h : HoldsRows rows r) where
  true_permits : trues permit (rows_view r) ≡ trues permit rows
  true_permits = trues_permit r ∙ h.true_permits

  residual_permits : residuals permit (rows_view r) ≡ residuals permit rows
  residual_permits = residuals_permit r ∙ h.residual_permits

  true_forbids : trues forbid (rows_view r) ≡ trues forbid rows
  true_forbids = trues_forbid r ∙ h.true_forbids

  residual_forbids : residuals forbid (rows_view r) ≡ residuals forbid rows
  residual_forbids = residuals_forbid r ∙ h.residual_forbids

  -- they are those of the run, sorted
  pub rows_sorted : rows_view r ≡ rows_by permit rows ++ rows_by forbid rows
  unfolding located_view
  rows_sorted =
      chosen_rows r true true true true true true
      ∙ (λ i. true_permits i ++ ((falses_permit r ∙ h.false_permits) i ++ (residual_permits i
      ++ (true_forbids i ++ ((falses_forbid r ∙ h.false_forbids) i ++ residual_forbids i)))))
      ∙ sym (append_assoc (trues permit rows) (falses permit rows ++ residuals permit rows) (rows_by forbid rows)
      ∙ ap (λ (xs : List Row). trues permit rows ++ xs) (append_assoc (falses permit rows) (residuals permit rows) (rows_by forbid rows)))

  pub concrete_alike : (mode : ErrorHandling) (errors : List (Text × Failure)) → concretized mode (rows_view r) errors ≡ concretized mode rows errors
  concrete_alike mode errors =
      concretized_alike (rows_view r) rows true_permits residual_permits true_forbids residual_forbids mode errors

-- ---- a run

module _ (mode : ErrorHandling) (s : Setting) (calls : StoredCalls) (levels : ℕ) (ps : List Policy) where
  pub run_stands : (r : PartialResponse) → IsRun (configured_by calls mode s levels) s ps r → ResponseStands (configured_by calls mode s levels) s ps r
  run_stands r is ans w c fit none = (
    is.rows,
    subst (IsReordering Row is.rows) (sym (rows_sorted is.rows r is.held)) (sorted_is is.rows),
    standing.run_stands mode ans calls c.functions_agree w s c.completion c.functions_are_faithful levels ps is.rows _ fit
        (run_recordable mode s calls levels ps is.rows _ none is.run) is.run,
  )

  pub run_low : (r : PartialResponse) → FunctionsMeetNoLimit calls → IsGivenSound calls s → IsRun (configured_by calls mode s levels) s ps r → IsDeepEnough (configured_by calls mode s levels) s ps r
  run_low r no_limit sound is b h low conditions enough =
      run_is_deep mode s calls no_limit b h levels sound low enough ps is.rows (errors_of r) conditions is.run

  pub run_concrete : (p : PartialResponse) (r : Authorized) → IsRun (configured_by calls mode s levels) s ps p → r ≡ concretized (mode_of p) (rows_view p) (errors_of p) → IsConcreteRun (configured_by calls mode s levels) s ps r
  run_concrete p r is e = record {
    rows = is.rows;
    errors = errors_of p;
    run = is.run;
    concrete = e ∙ ap (λ m. concretized m (rows_view p) (errors_of p)) is.mode_is ∙ concrete_alike is.rows p is.held mode (errors_of p);
  }

  module _ (r : Authorized) (is : IsConcreteRun (configured_by calls mode s levels) s ps r) where
    known_run : HasNothingUnknown s → (ans : Functions) → AgreesWithFunctions ans calls → HaveKnownConditions ans ps → IsResponse mode (PolicyRuns s calls levels) ps r
    known_run known ans agree k =
        subst (IsResponse mode (PolicyRuns s calls levels) ps) (sym is.concrete) (run_is_response mode calls s levels ps is.rows is.errors is.run (run_known mode s calls levels known ans agree ps is.rows is.errors k is.run))

    pub known_response : IsKnownResponse (configured_by calls mode s levels) s ps r
    known_response known ans agree k sigma none = exactly.response_exact calls ans agree s known sigma levels mode ps r k (known_run known ans agree k) none

    pub no_limit : MeetsNoLimit (configured_by calls mode s levels) s ps r.errors
    no_limit known ans agree k low = exactly.low_conditions calls ans agree s known (λ n. plain (bool_literal false)) levels mode ps r k (known_run known ans agree k) low

-- ---- a run of which nothing is left

abbrev given_bits : Bool → Bool → Bool → Bool → Option Decision
given_bits tf tp rp rf = cond tf (Some deny) (cond (not (tp || rp)) (Some deny) (cond rf None (cond tp (Some allow) None)))

settled_bits : (tf tp : Bool) → given_bits tf tp false false ≡ Some (cond (tp && not tf) allow deny)
settled_bits true true = refl
settled_bits true false = refl
settled_bits false true = refl
settled_bits false false = refl

settled_beside : (tf tp : Bool) → given_bits tf tp false false ≡ Some (cond (tp && not (tf || false)) allow deny)
settled_beside true true = refl
settled_beside true false = refl
settled_beside false true = refl
settled_beside false false = refl

given_is_concrete : (mode : ErrorHandling) (rows : List Row) → HaveNoResidual rows → given_decision rows ≡ Some (concrete_decision mode rows)
unfolding some_row
given_is_concrete forbid_on_error rows h =
    (λ i. given_bits (some_row (trues forbid rows)) (some_row (trues permit rows)) (some_row (h.0 i)) (some_row (h.1 i)))
    ∙ settled_beside (some_row (trues forbid rows)) (some_row (trues permit rows))
    ∙ sym (λ i. Some (cond (some_row (trues permit rows) && not (some_row (trues forbid rows) || some_row (h.1 i))) allow deny))
given_is_concrete skip rows h =
    (λ i. given_bits (some_row (trues forbid rows)) (some_row (trues permit rows)) (some_row (h.0 i)) (some_row (h.1 i)))
    ∙ settled_bits (some_row (trues forbid rows)) (some_row (trues permit rows))

errors_are_those : (rows : List Row) (errors : List (Text × Failure)) → HaveNoResidual rows → concrete_errors rows errors ≡ errors
errors_are_those rows errors h = λ i. map residual_error (h.1 i) ++ (map residual_error (h.0 i) ++ errors)

module _ (mode : ErrorHandling) (s : Setting) (calls : StoredCalls) (levels : ℕ) (ps : List Policy) (r : PartialResponse) (is : IsRun (configured_by calls mode s levels) s ps r) where
  abbrev made : Authorized
  made = concretized mode (rows_view r) (errors_of r)

  made_of_run : IsConcreteRun (configured_by calls mode s levels) s ps made
  made_of_run =
      run_concrete mode s calls levels ps r made is (ap (λ m. concretized m (rows_view r) (errors_of r)) (sym is.mode_is))

  none_left : HasNothingUnknown s → (ans : Functions) → AgreesWithFunctions ans calls → HaveKnownConditions ans ps → HaveNoResidual (rows_view r)
  none_left known ans agree k =
      let none = run_known mode s calls levels known ans agree ps is.rows (errors_of r) k is.run in
      (residual_permits is.rows r is.held ∙ none.0, residual_forbids is.rows r is.held ∙ none.1)

  pub known_partly : IsKnownRun (configured_by calls mode s levels) s ps (rows_view r) (errors_of r)
  known_partly known ans agree k =
      let none = none_left known ans agree k in
      let same = errors_are_those (rows_view r) (errors_of r) none in (
        none,
        λ sigma quiet.
            let z = known_response mode s calls levels ps made made_of_run known ans agree k sigma (subst HaveNoLimit (sym same) quiet) in
            record {
              decision_is = given_is_concrete mode (rows_view r) none ∙ ap Some z.decision_is;
              errors_are = subst (λ es. HaveKinds es (policy_errors s.extensions ans (own_world s sigma) ps)) same z.errors_are;
            },
      )

  pub known_meets_no_limit : MeetsNoLimit (configured_by calls mode s levels) s ps (errors_of r)
  known_meets_no_limit known ans agree k low =
      subst HaveNoLimit (errors_are_those (rows_view r) (errors_of r) (none_left known ans agree k)) (no_limit mode s calls levels ps made made_of_run known ans agree k low)

pub own_world_completes_call : (s : Setting) (ps : List Policy) → ((n : Text) → s.map n ≡ None) → OwnWorldCompletesCall s ps
own_world_completes_call s ps unmapped known ans k sigma = exactly.own_world_completes ans s sigma ps known unmapped k
