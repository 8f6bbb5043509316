-- What follows of a step that a response says.
use Rattle.std.specs.Prelude.{◌≡◌, ◌≢◌, ℕ, ◌+◌, ◌≤◌, List, [], ◌∷◌, map, Option, Some, None, option_map, IfSome, IfOk, IfErr, Result, Ok, Err}
use Rattle.std.proofs.Common.{refl, sym, ap, ◌∙◌, subst, arith}
use Rattle.cedar_model.specs.Failures.{recursion_limit}
use Rattle.cedar_model.specs.Settings.{ContextPart, absent_context, known_context, residual_context, RequestPart, Store, Setting}
use Rattle.cedar_model.specs.Rules.{StoredCalls}
use Rattle.cedar_model.specs.Agreement.{height, IsCompletion}
use Rattle.cedar_model.specs.Restricted.{IsSound, IsSoundContext, IsGivenSound}
use Rattle.cedar_model.specs.Values.{Represented}
use Rattle.cedar_model.specs.Reordering.{IsReordering, chaining}
use Rattle.cedar_model.specs.Policies.{permit, forbid, Policy, Effect, ErrorHandling}
use Rattle.cedar_model.specs.World.{World, Functions, Extensions}
use Rattle.cedar_model.specs.Responses.{Row, Stand, AreConditions}
use Rattle.cedar_model.specs.Refusals.{Refusal, context_fails}
use Rattle.cedar_model.specs.Chains.{Mapping, Response, substituted, substituted_at, at_step, all_residuals}
use Rattle.cedar_model.specs.Terms.{Text, Fields, record_of}
use Rattle.cedar_layers.specs.Policies.{PolicyView, decides_as}
use Rattle.cedar_model.specs.laws.Reports.{Within}
use Rattle.cedar_model.specs.Depth.{IsContextNoHigher}
use Rattle.cedar_model.specs.laws.Levels.{FunctionsMeetNoLimit}
use Rattle.cedar_model.specs.Authorizations.{HaveNoLimit}
use Rattle.cedar_model.specs.Reports.{ids, must_determine, may_determine, trues, falses, residuals}
use Rattle.cedar_model.proofs.Chained.{sorted_is, step_stands}
use Rattle.cedar_model.proofs.Completions.{step_completes}
use Rattle.cedar_model.proofs.Concrete as concrete
use Rattle.cedar_model.proofs.Finishing.{steps_finish}
use Rattle.cedar_model.proofs.Keeping.{nothing_taken_back}
use Rattle.cedar_model.proofs.Recorded.{run_recordable}
use Rattle.cedar_model.proofs.Stepping.{taken}
use Rattle.cedar_model.proofs.Configured.{configured_by}
use Rattle.cedar_authorizer.specs.declared.responses.partial_response.PartialResponse.{PartialResponse}
use Rattle.cedar_authorizer.specs.responses.Rows.{rows_view}
use Rattle.cedar_authorizer.proofs.Rows.{trues_permit, falses_permit, residuals_permit, trues_forbid, falses_forbid}
use Rattle.cedar_authorizer.proofs.Rows.{residuals_forbid}
use Rattle.cedar_authorizer.specs.declared.reauthorization.err.ReauthorizationError.{ReauthorizationError}
use Rattle.cedar_authorizer.specs.reauthorization.Errors.{step_refusal}
use Rattle.cedar_authorizer.specs.reauthorization.Concretizations.{IsResidualNoHigher}
use Rattle.cedar_authorizer.specs.Running.{HoldsRows}
use Rattle.cedar_authorizer.specs.Steps.{step_answer, IsStep, KeepsCompletions, KeepsWhatStands, TakesNothingBack, Finishes, StepIsDeepEnough}
use Rattle.cedar_authorizer.proofs.Deciding.{rows_sorted}
use Rattle.cedar_authorizer.proofs.Low.{step_is_deep}
use Rattle.cedar_authorizer.proofs.Same.{SameRows, same_decision, same_must, same_may, none_residual}

-- ---- the rows that six maps hold

pub same_rows : (rows : List Row) (r : PartialResponse) → HoldsRows rows r → SameRows rows (rows_view r)
same_rows rows r h = record { same_trues = by_trues; same_falses = by_falses; same_residuals = by_residuals }
  where
    by_trues : (e : Effect) → trues e (rows_view r) ≡ trues e rows
    by_trues permit = trues_permit r ∙ h.true_permits
    by_trues forbid = trues_forbid r ∙ h.true_forbids

    by_falses : (e : Effect) → falses e (rows_view r) ≡ falses e rows
    by_falses permit = falses_permit r ∙ h.false_permits
    by_falses forbid = falses_forbid r ∙ h.false_forbids

    by_residuals : (e : Effect) → residuals e (rows_view r) ≡ residuals e rows
    by_residuals permit = residuals_permit r ∙ h.residual_permits
    by_residuals forbid = residuals_forbid r ∙ h.residual_forbids

pub conditions_of : (ps : List PolicyView) → AreConditions (map decides_as ps)
conditions_of [] = tt
conditions_of (p ∷ ps) = (tt, conditions_of ps)

-- what stands in one order stands in the order of the maps
pub stand_sorted : (mode : ErrorHandling) (X : Extensions) (ans : Functions) (w : World) (ps : List Policy) (rows : List Row) (r : PartialResponse) → HoldsRows rows r → Stand mode X ans w ps rows → Stand mode X ans w ps (rows_view r)
stand_sorted mode X ans w ps rows r h (ordered, reordered, stand) =
    (ordered, subst (IsReordering Row ordered) (sym (rows_sorted rows r h)) (chaining reordered (sorted_is rows)), stand)

pub if_stepped : (result : Result PartialResponse ReauthorizationError) (P : Result PartialResponse Refusal → Type 0) (Q : PartialResponse → Type 0) → ((r : PartialResponse) → P (Ok r) → Q r) → IfSome (step_answer result) P → IfOk result Q
if_stepped (Ok r) P Q k h = k r h
if_stepped (Err e) P Q k h = tt

-- ---- what a step keeps

module _ (mode : ErrorHandling) (s : Setting) (calls : StoredCalls) (levels : ℕ) (m : Mapping) (store : Store) (old : Response) where
  pub kept_standing : (r : PartialResponse) → IsStep (configured_by calls mode s levels) (m, store) old (Ok r) → KeepsWhatStands (configured_by calls mode s levels) (m, store) old r
  kept_standing r (new, step, says) ans w c views h none =
      let ps = map decides_as views in
      let t = taken mode s calls levels m store old new step in
      let z = step_completes mode ans calls c.functions_agree w s levels m store old new c.completion c.functions_are_faithful step in
      let quiet : HaveNoLimit new.errors = subst HaveNoLimit (sym says.errors_are) none in
      stand_sorted mode s.extensions ans w ps new.rows r says.held
      (step_stands mode ans calls c.functions_agree w (at_step s.extensions s.resolution new.request store m) z c.functions_are_faithful levels ps old.rows new.rows new.errors (conditions_of views) h
      (run_recordable mode (at_step s.extensions s.resolution new.request store m) calls levels (all_residuals old.rows) new.rows new.errors quiet t.runs) t.runs)

  pub kept_completing : (r : PartialResponse) → IsStep (configured_by calls mode s levels) (m, store) old (Ok r) → KeepsCompletions (configured_by calls mode s levels) (m, store) old r
  kept_completing r (new, step, says) ans w c =
      let z = step_completes mode ans calls c.functions_agree w s levels m store old new c.completion c.functions_are_faithful step in
      record {
        completion = subst (λ (q : RequestPart). IsCompletion ans w (at_step s.extensions s.resolution q store m)) says.request_is z;
        functions_agree = c.functions_agree;
        functions_are_faithful = c.functions_are_faithful;
      }

  pub nothing_back : (r : PartialResponse) → IsStep (configured_by calls mode s levels) (m, store) old (Ok r) → TakesNothingBack (configured_by calls mode s levels) (m, store) old r
  nothing_back r (new, step, says) none =
      let k = nothing_taken_back calls mode s levels m store old new step (subst HaveNoLimit (sym says.errors_are) none) in
      let same = same_rows new.rows r says.held in
      record {
        decision_stays = λ d e. same_decision new.rows (rows_view r) same ∙ k.decision_stays d e;
        must_stays = subst (λ (rows : List Row). Within (ids (must_determine old.rows)) (ids rows)) (sym (same_must new.rows (rows_view r) same)) k.must_stays;
        may_stays = subst (λ (rows : List Row). Within (ids rows) (ids (may_determine old.rows))) (sym (same_may new.rows (rows_view r) same)) k.may_stays;
      }

  pub step_finishes : (r : PartialResponse) → IsSoundContext old.request.context_part → ((n : Text) (v : Represented) → m n ≡ Some v → IsSound v) → IsStep (configured_by calls mode s levels) (m, store) old (Ok r) → Finishes (configured_by calls mode s levels) (m, store) old r
  step_finishes r sound mapped_sound (new, step, says) ans agree is_concrete stored named =
      let k = steps_finish calls ans agree mode s.resolution s.extensions levels m store old new is_concrete stored sound mapped_sound named step in
      let none = none_residual new.rows (rows_view r) (same_rows new.rows r says.held) k.0 in
      (none, λ w ps h. concrete.concrete_is_defined mode s.extensions ans w ps (rows_view r) h none)

  -- ---- the depth bound

  record_substituted : (fs : Fields) → substituted m (record_of fs) ≡ record_of (substituted_at m fs)
  unfolding substituted
  record_substituted fs = refl

  at_most : (b n k : ℕ) → b ≤ n → k ≤ b → k ≤ n
  at_most b n k h f = omega (arith, h, f)

  low_context : (b n : ℕ) (c : ContextPart) → b ≤ n → IsContextNoHigher m b c → IsResidualNoHigher m n c
  low_context b n absent_context h k = tt
  low_context b n (known_context fs) h k = tt
  low_context b n (residual_context fs) h k = at_most b n (height (record_of (substituted_at m fs))) h (subst (λ t. height t ≤ b) (record_substituted fs) k)

  low_enough : (b h n : ℕ) → h + (b + b) ≤ n → b ≤ n
  low_enough b h n enough = omega (arith, enough)

  pub answered_low : FunctionsMeetNoLimit calls → IsGivenSound calls (at_step s.extensions s.resolution old.request store m) → (result : Result PartialResponse ReauthorizationError) → IfSome (step_answer result) (IsStep (configured_by calls mode s levels) (m, store) old)
      → (IsResidualNoHigher m levels old.request.context_part → IfErr result (λ e. step_refusal e ≢ Some (context_fails recursion_limit)))
      → IfSome (step_answer result) (StepIsDeepEnough (configured_by calls mode s levels) (m, store) old)
  answered_low no_limit sound (Ok r) (new, step, says) refused =
      λ b h low conditions enough. subst HaveNoLimit says.errors_are (step_is_deep mode s calls levels m store no_limit b h old sound low enough new step conditions)
  answered_low no_limit sound (Err e) is refused = by (step_refusal e) refl
    where
      by : (o : Option Refusal) → step_refusal e ≡ o → IfSome (option_map {U = Result PartialResponse Refusal} Err o) (StepIsDeepEnough (configured_by calls mode s levels) (m, store) old)
      by None g = tt
      by (Some x) g =
          λ b h low conditions enough w. refused (low_context b levels old.request.context_part (low_enough b h levels enough) low.context_low) (g ∙ ap Some w)
