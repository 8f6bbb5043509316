-- What two answers to equal arguments have in common, also with more levels.
use Rattle.std.specs.Prelude.{◌≡◌, ℕ, ◌≤◌, List, [], ◌∷◌, ◌++◌, map, Ok}
use Rattle.std.proofs.Common.{refl, sym, ap, ◌∙◌, subst}
use Rattle.cedar_model.specs.Terms.{Text}
use Rattle.cedar_model.specs.Failures.{Failure}
use Rattle.cedar_model.specs.Settings.{RequestPart, Resolution, Store, Setting}
use Rattle.cedar_model.specs.Rules.{StoredCalls}
use Rattle.cedar_model.specs.Alike.{AreFunctional}
use Rattle.cedar_model.specs.Policies.{permit, forbid, Policy, ErrorHandling}
use Rattle.cedar_model.specs.Configurations.{Configuration}
use Rattle.cedar_model.specs.Responses.{Row, RunOf}
use Rattle.cedar_model.specs.Chains as chains
use Rattle.cedar_model.specs.Chains.{rows_by, at_step, no_values}
use Rattle.cedar_model.proofs.Configured.{setting_with}
use Rattle.cedar_model.proofs.Injections.{ok_inj}
use Rattle.cedar_model.specs.Authorizations.{Authorized, HaveNoLimit, failure_kinds}
use Rattle.cedar_model.specs.Reports.{residuals, residual_error, concretized}
use Rattle.cedar_laws.specs.AlikeRuns.{AreAlikeRows, AreAlikeRuns, AreAlikeResponses}
use Rattle.cedar_laws.proofs.AlikeAnswers.{runs_alike}
use Rattle.cedar_laws.proofs.AlikeRows.{sorted_alike, report_the_same, answer_alike}
use Rattle.cedar_laws.proofs.OneAnswer.{runs_equal}
use Rattle.cedar_laws.proofs.OneStep.{one_step, alike_steps}
use Rattle.cedar_laws.proofs.Lasting.{run_lasts, runs_stay}
use Rattle.cedar_decisions.specs.declared.decision.Decision.TheVariants.{Allow, Deny}
use Rattle.cedar_decisions.specs.declared.decision.Decision as decisions
use Rattle.cedar_decisions.specs.Decisions.{decision_view}
use Rattle.cedar_extensions.specs.declared.extensions.Extensions.{Extensions}
use Rattle.cedar_extensions.specs.Extensions.{extensions_view, calls_of}
use Rattle.cedar_extensions.specs.StoredLaws.{calls_functional}
use Rattle.cedar_authorizer.specs.declared.authorizer.Authorizer.{Authorizer}
use Rattle.cedar_authorizer.specs.declared.responses.partial_response.PartialResponse.{PartialResponse}
use Rattle.cedar_authorizer.specs.declared.responses.response.Response.{Response}
use Rattle.cedar_authorizer.specs.responses.Responses.{response_view}
use Rattle.cedar_requests.specs.Requests.{request_view}
use Rattle.cedar_authorizer.specs.responses.Rows as rows
use Rattle.cedar_authorizer.specs.responses.Rows.{rows_view}
use Rattle.cedar_authorizer.specs.Configured.{configuration, asked_of, extensions_of, mode_of, limit_of, resolution_of, DifferInLimit}
use Rattle.cedar_authorizer.specs.Determined
use Rattle.cedar_authorizer.specs.Running.{errors_of, request_of, HoldsRows, IsRun, IsConcreteRun}
use Rattle.cedar_authorizer.proofs.Deciding.{rows_sorted}

pub same_decision : (d e : decisions.Decision) → decision_view d ≡ decision_view e → d ≡ e
same_decision Allow Allow h = refl
same_decision Allow Deny h = absurd (cc)
same_decision Deny Allow h = absurd (cc)
same_decision Deny Deny h = refl

same_answer : (r other : Response) → AreAlikeResponses (response_view r) (response_view other) → Determined.IsSameAnswer r other
same_answer r other h = record {
  alike = (sym (same_decision r.decision other.decision h.decision_same), λ t. sym (h.reasons_same t));
  kinds_same = h.kinds_same;
}

-- ---- errors that are made concrete

none_recorded : (es fs : List (Text × Failure)) → HaveNoLimit (es ++ fs) → HaveNoLimit fs
none_recorded [] fs h = h
none_recorded (e ∷ es) fs h = none_recorded es fs h.1

-- ---- rows that six maps hold

report_of_alike : (r other : PartialResponse) (rows others : List Row) → HoldsRows rows r → HoldsRows others other
    → AreAlikeRuns rows others (errors_of r) (errors_of other) → Determined.IsSameReport r other
report_of_alike r other rows others held other_held z =
    let alike : AreAlikeRows (rows_view r) (rows_view other) =
    subst (λ (rs : List Row). AreAlikeRows rs (rows_view other)) (sym (rows_sorted rows r held))
    (subst (λ (rs : List Row). AreAlikeRows (rows_by permit rows ++ rows_by forbid rows) rs) (sym (rows_sorted others other other_held)) (sorted_alike rows others z.rows_alike)) in
    record {
      alike = record { rows_alike = alike; kinds_same = z.kinds_same };
      same = report_the_same (rows_view r) (rows_view other) alike;
    }

same_rows_of : (r other : PartialResponse) (rows others : List Row) → HoldsRows rows r → HoldsRows others other → rows ≡ others → rows_view r ≡ rows_view other
same_rows_of r other rows others held other_held same =
    rows_sorted rows r held ∙ (λ i. rows_by permit (same i) ++ rows_by forbid (same i)) ∙ sym (rows_sorted others other other_held)

module _ (mode : ErrorHandling) (s : Setting) (calls : StoredCalls) (functional : AreFunctional calls) (levels : ℕ) (ps : List Policy) where
  -- ---- one call, asked twice

  concrete_once : (rows others : List Row) (errors other_errors : List (Text × Failure)) → RunOf mode s calls levels ps rows errors → RunOf mode s calls levels ps others other_errors
      → AreAlikeResponses (concretized mode rows errors) (concretized mode others other_errors)
  concrete_once rows others errors other_errors h k =
      answer_alike mode rows others errors other_errors (runs_alike calls functional mode s levels ps rows others errors other_errors h k)

  same_report : (r other : PartialResponse) (rows others : List Row) → HoldsRows rows r → HoldsRows others other → RunOf mode s calls levels ps rows (errors_of r)
      → RunOf mode s calls levels ps others (errors_of other) → Determined.IsSameReport r other
  same_report r other rows others held other_held h k =
      report_of_alike r other rows others held other_held (runs_alike calls functional mode s levels ps rows others (errors_of r) (errors_of other) h k)

module _ {X : Type 0} {F : X → Type 0} {g : _} (a : Authorizer X F g) where
  pub answers_once : (r other : Response) → Determined.AnswersOnce (configuration a) r other
  answers_once r other s ps h k =
      same_answer r other
      (subst (λ (x : Authorized). AreAlikeResponses x (response_view other)) (sym h.concrete)
      (subst (λ (x : Authorized). AreAlikeResponses (concretized (mode_of a) h.rows h.errors) x) (sym k.concrete)
      (concrete_once (mode_of a) s (calls_of (extensions_of a)) (calls_functional (extensions_of a)) (limit_of a) ps h.rows k.rows h.errors k.errors h.run k.run)))

  pub reports_once : (r other : PartialResponse) → Determined.ReportsOnce (configuration a) r other
  reports_once r other s ps h k =
      same_report (mode_of a) s (calls_of (extensions_of a)) (calls_functional (extensions_of a)) (limit_of a) ps r other h.rows k.rows h.held k.held h.run k.run

  pub answers_equally : (r other : Response) → Determined.AnswersEqually (configuration a) r other
  answers_equally r other one s ps h k =
      let z = runs_equal (calls_of (extensions_of a)) one (mode_of a) s (limit_of a) ps h.rows k.rows h.errors k.errors h.run k.run in
      h.concrete ∙ (λ i. concretized (mode_of a) (z.0 i) (z.1 i)) ∙ sym k.concrete

  pub reports_equally : (r other : PartialResponse) → Determined.ReportsEqually (configuration a) r other
  reports_equally r other one s ps h k =
      let z = runs_equal (calls_of (extensions_of a)) one (mode_of a) s (limit_of a) ps h.rows k.rows (errors_of r) (errors_of other) h.run k.run in (
        same_rows_of r other h.rows k.rows h.held k.held z.0,
        z.1,
      )

  -- ---- one step, taken twice

  pub steps_once : (old : chains.Response) (r other : PartialResponse) → Determined.StepsReportOnce (configuration a) old r other
  steps_once old r other step settled (new, h, says) (new', k, says') =
      let z = alike_steps (calls_of (extensions_of a)) (mode_of a) (limit_of a) step.0 (calls_functional (extensions_of a)) (setting_with (extensions_view (extensions_of a)) (resolution_of a)) step.1 old (Ok new) (Ok new') settled h k in
      report_of_alike r other new.rows new'.rows says.held says'.held
      (subst (λ (es : List (Text × Failure)). AreAlikeRuns new.rows new'.rows es (errors_of other)) says.errors_are
      (subst (λ (es : List (Text × Failure)). AreAlikeRuns new.rows new'.rows new.errors es) says'.errors_are z.runs_alike))

  pub steps_equally : (old : chains.Response) (r other : PartialResponse) → Determined.StepsReportEqually (configuration a) old r other
  steps_equally old r other one step (new, h, says) (new', k, says') =
      let z : Ok new ≡ Ok new' = one_step (calls_of (extensions_of a)) (mode_of a) (limit_of a) step.0 one (setting_with (extensions_view (extensions_of a)) (resolution_of a)) step.1 old (Ok new) (Ok new') h k in
      let same : new ≡ new' = ok_inj z in
      let mode : rows.mode_of r ≡ rows.mode_of other = sym says.mode_is ∙ ap (λ (n : chains.Response). n.mode) same ∙ says'.mode_is in
      let request : request_view (request_of r) ≡ request_view (request_of other) = sym says.request_is ∙ ap (λ (n : chains.Response). n.request) same ∙ says'.request_is in
      let errors : errors_of r ≡ errors_of other = sym says.errors_are ∙ ap (λ (n : chains.Response). n.errors) same ∙ says'.errors_are in
      let held : rows_view r ≡ rows_view other = same_rows_of r other new.rows new'.rows says.held says'.held (ap (λ (n : chains.Response). n.rows) same) in
      λ i. record { mode = mode i; request = request i; rows = held i; errors = errors i }

  -- ---- more levels

  pub answers_stay : (r : Response) → Determined.AnswersStay (configuration a) r
  answers_stay r s ps levels more none h =
      let quiet : HaveNoLimit (concretized (mode_of a) h.rows h.errors).errors = subst (λ (x : Authorized). HaveNoLimit x.errors) h.concrete none in
      let kept = none_recorded (map residual_error (residuals permit h.rows)) h.errors (none_recorded (map residual_error (residuals forbid h.rows)) _ quiet) in
      record {
        rows = h.rows;
        errors = h.errors;
        run = run_lasts (calls_of (extensions_of a)) (mode_of a) s (limit_of a) levels more ps h.rows h.errors kept h.run;
        concrete = h.concrete;
      }

  pub reports_stay : (r : PartialResponse) → Determined.ReportsStay (configuration a) r
  reports_stay r s ps levels more none h = record {
    mode_is = h.mode_is;
    rows = h.rows;
    run = run_lasts (calls_of (extensions_of a)) (mode_of a) s (limit_of a) levels more ps h.rows (errors_of r) none h.run;
    held = h.held;
  }

  module _ (b : Authorizer X F g) (differ : DifferInLimit a b) where
    -- the run of the other is one with its limit
    run_with : (request : RequestPart) (store : Store) (ps : List Policy) (rows : List Row) (errors : List (Text × Failure))
        → RunOf (mode_of b) (asked_of (configuration b) request store) (calls_of (extensions_of b)) (limit_of b) ps rows errors
        → RunOf (mode_of a) (asked_of (configuration a) request store) (calls_of (extensions_of a)) (limit_of b) ps rows errors
    run_with request store ps rows errors h =
        subst (λ (e : Extensions X F g). RunOf (mode_of a) (at_step (extensions_view e) (resolution_of a) request store no_values) (calls_of e) (limit_of b) ps rows errors) differ.0
        (subst (λ (mode : ErrorHandling). RunOf mode (at_step (extensions_view (extensions_of b)) (resolution_of a) request store no_values) (calls_of (extensions_of b)) (limit_of b) ps rows errors) differ.1
        (subst (λ (q : Resolution). RunOf (mode_of b) (at_step (extensions_view (extensions_of b)) q request store no_values) (calls_of (extensions_of b)) (limit_of b) ps rows errors) differ.2 h))

    pub answers_with_more : (r other : Response) → Determined.AnswersAlikeWithMore (configuration a) (configuration b) r other
    answers_with_more r other request store ps none h k =
        let stays = answers_stay r (asked_of (configuration a) request store) ps (limit_of b) differ.3 none h in
        let other_run = run_with request store ps k.rows k.errors k.run in
        let other_is : response_view other ≡ concretized (mode_of a) k.rows k.errors = k.concrete ∙ ap (λ (mode : ErrorHandling). concretized mode k.rows k.errors) differ.1 in
        same_answer r other
        (subst (λ (x : Authorized). AreAlikeResponses x (response_view other)) (sym stays.concrete)
        (subst (λ (x : Authorized). AreAlikeResponses (concretized (mode_of a) stays.rows stays.errors) x) (sym other_is)
        (concrete_once (mode_of a) (asked_of (configuration a) request store) (calls_of (extensions_of a)) (calls_functional (extensions_of a)) (limit_of b) ps stays.rows k.rows stays.errors k.errors stays.run other_run)))

    pub reports_with_more : (r other : PartialResponse) → Determined.ReportsAlikeWithMore (configuration a) (configuration b) r other
    reports_with_more r other request store ps none h k =
        let stays = reports_stay r (asked_of (configuration a) request store) ps (limit_of b) differ.3 none h in
        same_report (mode_of a) (asked_of (configuration a) request store) (calls_of (extensions_of a)) (calls_functional (extensions_of a)) (limit_of b) ps r other stays.rows k.rows stays.held k.held stays.run
        (run_with request store ps k.rows (errors_of other) k.run)

    pub only_limits_change : (r other : PartialResponse) → Determined.OnlyLimitsChange (configuration a) (configuration b) r other
    only_limits_change r other request store ps h k = record {
      rows = h.rows;
      other_rows = k.rows;
      held = h.held;
      other_held = k.held;
      stay = runs_stay (calls_of (extensions_of a)) (mode_of a) (asked_of (configuration a) request store) (limit_of a) (limit_of b) differ.3 (calls_functional (extensions_of a)) ps h.rows k.rows (errors_of r) (errors_of other) h.run
          (run_with request store ps k.rows (errors_of other) k.run);
    }
