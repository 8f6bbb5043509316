-- What two responses with the same rows, effect by effect and report by report, have in common.
use Rattle.std.specs.Prelude.{◌≡◌, Bool, true, false, cond, not, ◌||◌, List, ◌++◌, map, Option, Some, None, Result, Ok, Err}
use Rattle.std.proofs.Common.{ap, ◌∙◌, subst}
use Rattle.cedar_model.specs.Terms.{Text}
use Rattle.cedar_model.specs.Settings.{ContextPart, RequestPart, Store}
use Rattle.cedar_model.specs.Configurations.{Configuration}
use Rattle.cedar_model.specs.Policies.{Policy, Effect, permit, forbid, Decision, allow, deny}
use Rattle.cedar_model.specs.Responses.{Row, RunOf, carried}
use Rattle.cedar_model.specs.Refusals.{Refusal, mode_is_other, first_repeated, concrete_request}
use Rattle.cedar_model.specs.Chains.{Mapping, Response, rows_by, all_residuals, at_step, with_context, SubstitutesTo, is_same_mode, AfterContext, AfterRequest, AfterIds, AfterMode, Steps}
use Rattle.cedar_model.specs.Reports.{some_row, trues, falses, residuals, given_decision, must_determine, may_determine, HaveNoResidual}

pub record SameRows (rows view : List Row) : Type 0 where
  pub same_trues : (e : Effect) → trues e view ≡ trues e rows
  pub same_falses : (e : Effect) → falses e view ≡ falses e rows
  pub same_residuals : (e : Effect) → residuals e view ≡ residuals e rows

module _ (rows view : List Row) (h : SameRows rows view) where
  same_by : (e : Effect) → rows_by e view ≡ rows_by e rows
  same_by e = λ i. h.same_trues e i ++ (h.same_falses e i ++ h.same_residuals e i)

  pub same_carried : all_residuals view ≡ all_residuals rows
  same_carried = λ i. map carried (same_by permit i ++ same_by forbid i)

  abbrev given_by : List Row → List Row → List Row → List Row → Option Decision
  given_by tf tp rp rf =
      cond (some_row tf) (Some deny)
      (cond (not (some_row tp || some_row rp)) (Some deny)
      (cond (some_row rf) None (cond (some_row tp) (Some allow) None)))

  pub same_decision : given_decision view ≡ given_decision rows
  same_decision = λ i. given_by (h.same_trues forbid i) (h.same_trues permit i) (h.same_residuals permit i) (h.same_residuals forbid i)

  abbrev must_by : List Row → List Row → List Row → List Row
  must_by tf tp rf = cond (some_row tf || some_row rf) tf tp

  pub same_must : must_determine view ≡ must_determine rows
  same_must = λ i. must_by (h.same_trues forbid i) (h.same_trues permit i) (h.same_residuals forbid i)

  abbrev may_by : List Row → List Row → List Row → List Row → List Row
  may_by tf tp rp rf = cond (some_row tf) (tf ++ rf) (tp ++ (rp ++ rf))

  pub same_may : may_determine view ≡ may_determine rows
  same_may = λ i. may_by (h.same_trues forbid i) (h.same_trues permit i) (h.same_residuals permit i) (h.same_residuals forbid i)

  pub none_residual : HaveNoResidual rows → HaveNoResidual view
  none_residual k = (h.same_residuals permit ∙ k.0, h.same_residuals forbid ∙ k.1)

-- ---- a step depends on no more of the rows

module _ (c : Configuration) (m : Mapping) (store : Store) (a b : Response) (mode_same : a.mode ≡ b.mode) (request_same : a.request ≡ b.request)
    (carried_same : all_residuals a.rows ≡ all_residuals b.rows) (x : Result Response Refusal) where
  by_context : (r : RequestPart) (d : Result ContextPart Refusal) → AfterContext c m store a r d x → AfterContext c m store b r d x
  by_context r (Ok d) (rows, errors, run, e) = (
    rows,
    errors,
    subst (λ (ps : List Policy). RunOf c.mode (at_step c.extensions c.resolution (with_context r d) store m) c.calls c.levels ps rows errors) carried_same run,
    e,
  )
  by_context r (Err f) h = h

  by_request : (q : Result RequestPart Refusal) → AfterRequest c m store a q x → AfterRequest c m store b q x
  by_request (Ok r) (d, g, k) = (
    d,
    subst (λ (q : RequestPart). SubstitutesTo (at_step c.extensions c.resolution q store m) c.calls c.levels m r.context_part d) request_same g,
    by_context r d k,
  )
  by_request (Err f) h = h

  by_ids : (o : Option Text) → AfterIds c m store a o x → AfterIds c m store b o x
  by_ids (Some id) h = h
  by_ids None h =
      subst (λ (q : RequestPart). AfterRequest c m store b (concrete_request m q) x) request_same (by_request (concrete_request m a.request) h)

  by_mode : (d : Bool) → AfterMode c m store a d x → AfterMode c m store b d x
  by_mode true h =
      subst (λ (ps : List Policy). AfterIds c m store b (first_repeated (map (λ p. p.id) ps)) x) carried_same (by_ids (first_repeated (map (λ p. p.id) (all_residuals a.rows))) h)
  by_mode false h = h ∙ ap (λ o. Err (mode_is_other o c.mode)) mode_same

  pub same_step : Steps c m store a x → Steps c m store b x
  same_step h =
      subst (λ o. AfterMode c m store b (is_same_mode c.mode o) x) mode_same (by_mode (is_same_mode c.mode a.mode) h)
