-- The headline, by induction on the steps: each response's request is completed by the world, and what it reports
-- stands.
use Rattle.std.specs.Prelude.{ℕ, List, [], ◌∷◌}
use Rattle.std.proofs.Common.{sym, subst}
use Rattle.cedar_model.specs.World.{World, Functions}
use Rattle.cedar_model.specs.Policies.{ErrorHandling}
use Rattle.cedar_model.specs.Settings.{RequestPart, Resolution, Setting, Store}
use Rattle.cedar_model.specs.Rules.{StoredCalls}
use Rattle.cedar_model.specs.Agreement
use Rattle.cedar_model.specs.Policies.{Policy}
use Rattle.cedar_model.specs.Responses
use Rattle.cedar_model.specs.Chains
use Rattle.cedar_model.specs.Chains.{Mapping, Response, ChainStep}
use Rattle.cedar_model.specs.Authorizations.{HaveNoLimit}
use Rattle.cedar_model.specs.Headline
use Rattle.cedar_model.proofs.Recorded.{run_recordable}
use Rattle.cedar_model.proofs.Standing.{run_stands, in_order_stands}
use Rattle.cedar_model.proofs.Stepping.{taken}
use Rattle.cedar_model.proofs.Completions.{step_completes}
use Rattle.cedar_model.proofs.Chained.{step_stands}
use Rattle.cedar_model.proofs.Limits.{goes_on, first_has_none}
use Rattle.cedar_model.proofs.Bounds
use Rattle.cedar_model.proofs.Concrete.{concrete_is_defined}
use Rattle.cedar_model.proofs.Configured.{configured_by, in_step}
use Rattle.cedar_model.proofs.Injections.{ok_inj, none_is_not_some}

module _ (mode : ErrorHandling) (calls : StoredCalls) (ans : Functions) (w : World) (s : Setting) (levels : ℕ)
    (agree : Agreement.AgreesWithFunctions ans calls) (faithful : Agreement.AnswerFaithfully s.extensions ans calls)
    (ps : List Policy) (conditions : Responses.AreConditions ps) where
  -- the world completes a request
  pub record CompletesRequest (r : RequestPart) : Type 0 where
    pub agrees : Agreement.AgreesWithRequest s.extensions ans w r
    pub context_is_faithful : Agreement.IsFaithfulContext s.extensions ans r.context_part
    pub context_fits : Agreement.FitsContext s.extensions ans w r.context_part

  with_step : (q : Resolution) (r : RequestPart) (m : Mapping) (store : Store) → CompletesRequest r
      → Headline.CompletesMap s.extensions ans w m
      → Headline.CompletesStore s.extensions ans w store → Agreement.IsCompletion ans w
      (Chains.at_step s.extensions q r store m)
  with_step resolution r m store q a b = record {
    agreement = record {
      request_agrees = q.agrees;
      store_agrees = b.store_agrees;
      map_agrees = a.map_agrees;
      context_fits = q.context_fits;
      store_fits = b.stored_residuals_fit;
    };
    values = record {
      context_faithful = q.context_is_faithful;
      store_faithful = b.stored_values_are_faithful;
      map_faithful = a.mapped_values_are_faithful;
    };
  }

  pub no_map_completes : Headline.CompletesMap s.extensions ans w Chains.no_values
  no_map_completes = record {
    map_agrees = λ n v e. absurd (none_is_not_some e);
    mapped_values_are_faithful = λ n v e. absurd (none_is_not_some e);
  }

  pub chain_stands : (r last : Response) (steps : List ChainStep) → CompletesRequest r.request
      → Headline.CompletesSteps s.extensions ans w steps → Responses.Stand mode s.extensions ans w ps r.rows
      → Chains.ChainOf (configured_by calls mode s levels) r steps last → HaveNoLimit last.errors
      → Responses.Stand mode s.extensions ans w ps last.rows
  chain_stands r last [] q c h g none =
      subst (λ x. Responses.Stand mode s.extensions ans w ps x.rows) (sym (ok_inj g)) h
  chain_stands r last (step ∷ steps) q c h g none =
      let on = goes_on mode s calls levels r last step steps g none in
      let next = on.1.0 in
      let k = first_has_none mode s calls levels next last steps on.1.2 none in
      let before = with_step step.resolution r.request step.mapping step.store q c.0 c.1 in
      let t = taken mode (in_step s step) calls levels step.mapping step.store r next on.1.1 in
      let z = step_completes mode ans calls agree w (in_step s step) levels step.mapping step.store r next before faithful
      on.1.1 in
      let stand = step_stands mode ans calls agree w (Chains.at_step s.extensions step.resolution next.request step.store
      step.mapping) z faithful levels ps
      r.rows next.rows next.errors conditions h
      (run_recordable mode (Chains.at_step s.extensions step.resolution next.request step.store step.mapping) calls
      levels
      (Chains.all_residuals r.rows) next.rows next.errors k t.runs) t.runs in
      chain_stands next last steps record {
        agrees = z.agreement.request_agrees;
        context_is_faithful = z.values.context_faithful;
        context_fits = z.agreement.context_fits;
      } c.2 stand on.1.2 none

pub headline : (mode : ErrorHandling) (calls : StoredCalls) (s : Setting) (levels : ℕ) (ps : List Policy)
    (steps : List ChainStep) (first last : Response) → Responses.AreConditions ps
    → Chains.Begins (configured_by calls mode s levels) s.request s.store ps first
    → Chains.ChainOf (configured_by calls mode s levels) first steps last → (ans : Functions) (w : World)
    → Headline.Premises (configured_by calls mode s levels) s.request s.store ps steps ans w last.errors
    → Headline.Headline mode s.extensions ans w ps last.rows
headline mode calls s levels ps steps first last conditions begun taken_to ans w c =
    let agree = c.functions_are_functional in
    let faithful = c.functions_are_faithful in
    let q : CompletesRequest mode calls ans w s levels agree faithful ps conditions s.request =
    record
    { agrees = c.request_agrees; context_is_faithful = c.context_is_faithful; context_fits = c.context_fits } in
    let z = with_step mode calls ans w s levels agree faithful ps conditions s.resolution s.request Chains.no_values s.store q
    (no_map_completes mode calls ans w s levels agree faithful ps conditions) c.first_store_agrees in
    let none = first_has_none mode s calls levels first last steps taken_to c.no_limit_is_recorded in
    let start = Chains.at_step s.extensions s.resolution s.request s.store Chains.no_values in
    let first_stands = in_order_stands first.rows (Responses.StandInOrder mode s.extensions ans w ps)
    (run_stands mode ans calls agree w start z faithful levels ps first.rows first.errors
    c.conditions_fit (run_recordable mode start calls levels ps first.rows first.errors none begun.runs) begun.runs) in
    let stand =
    chain_stands mode calls ans w s levels agree faithful ps conditions first last steps
    (subst (CompletesRequest mode calls ans w s levels agree faithful ps conditions)
    (sym begun.request_is) q) c.steps_agree first_stands taken_to c.no_limit_is_recorded in
    record {
      stands = stand;
      holds = Bounds.reports_hold mode s.extensions ans w ps last.rows stand;
      defined = concrete_is_defined mode s.extensions ans w ps last.rows stand;
    }
