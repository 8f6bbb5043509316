-- What is told of an entity by a plan, and what is known of each row.
use Rattle.std.proofs.Common.{◌≡◌, ◌∙◌, Bool, true, false, cond, ◌||◌, Option, Some, None, IfSome, option_map, refl, sym, ap}
use Rattle.cedar_model.specs.Terms.{EntityName}
use Rattle.cedar_model.specs.Settings.{StoredEntity}
use Rattle.cedar_model.specs.Policies as model
use Rattle.cedar_model.specs.Policies.{Effect, permit, forbid, ErrorHandling, skip, forbid_on_error, allow, deny}
use Rattle.cedar_model.specs.Reports.{given_decision}
use Rattle.cedar_decisions.specs.declared.decision.Decision.{Decision}
use Rattle.cedar_decisions.specs.Decisions.{decision_view, known_decision}
use Rattle.cedar_authorizer.specs.responses.Rows.{mode_of, rows_view}
use Rattle.cedar_filter.specs.Faults.{can_stand_for}
use Rattle.cedar_plan.specs.declared.plans.Plan.{Plan}
use Rattle.cedar_plan.specs.declared.policies.PlannedPolicies.{PlannedPolicies}
use Rattle.cedar_plan.specs.Planned.{plan_mode, plan_permits, plan_forbids, row_name, row_type, row_policies_view}
use Rattle.cedar_plan.specs.Planned.{satisfied_in, residuals_in, some_of}
use Rattle.cedar_plan.specs.Told.{errs_count, some_counts, some_untold, rows_at}
use Rattle.cedar_plan.specs.Worlds.{IsToldOf, DecidesAt}
use Rattle.cedar_plan.proofs.Narrowed.{decided_at}
use Rattle.cedar_plan.proofs.Tallied.{counted, left_open}

permits_err : (m : ErrorHandling) → false ≡ errs_count m permit
permits_err skip = refl
permits_err forbid_on_error = refl

abbrev pub some_count : Bool → EntityName → StoredEntity → PlannedPolicies → Bool
some_count errs e x p = some_of (satisfied_in p) || some_counts errs e x (row_policies_view (residuals_in p))

abbrev pub some_open : Bool → EntityName → StoredEntity → PlannedPolicies → Bool
some_open errs e x p = some_untold errs e x (row_policies_view (residuals_in p))

module _ (p : Plan) (e : EntityName) (x : StoredEntity) where
  -- of an entity that can stand for the unknown
  pub told : (d : Option model.Decision) (pc po fc fo : Bool) → can_stand_for (row_type p) e ≡ true
      → pc ≡ some_count false e x (plan_permits p) → po ≡ some_open false e x (plan_permits p)
      → fc ≡ some_count (errs_count (plan_mode p) forbid) e x (plan_forbids p)
      → fo ≡ some_open (errs_count (plan_mode p) forbid) e x (plan_forbids p)
      → d ≡ known_decision pc po fc fo → IsToldOf p e x d
  told d pc po fc fo can permits_count permits_open forbids_count forbids_open is r plan =
      let m = mode_of r in
      let rows = rows_view r in
      let pc' = permits_count ∙ ap (λ b. some_count b e x (plan_permits p)) (permits_err m)
      ∙ counted m (row_name p) (row_type p) e x can permit rows (plan_permits p) plan.permits in
      let po' = permits_open ∙ ap (λ b. some_open b e x (plan_permits p)) (permits_err m)
      ∙ left_open m (row_name p) (row_type p) e x can permit rows (plan_permits p) plan.permits in
      let fc' = forbids_count ∙ ap (λ (k : ErrorHandling). some_count (errs_count k forbid) e x (plan_forbids p)) plan.mode
      ∙ counted m (row_name p) (row_type p) e x can forbid rows (plan_forbids p) plan.forbids in
      let fo' = forbids_open ∙ ap (λ (k : ErrorHandling). some_open (errs_count k forbid) e x (plan_forbids p)) plan.mode
      ∙ left_open m (row_name p) (row_type p) e x can forbid rows (plan_forbids p) plan.forbids in
      is ∙ (λ i. known_decision (pc' i) (po' i) (fc' i) (fo' i))
      ∙ sym (ap (λ b. cond b (given_decision (rows_at m (row_name p) (row_type p) e x rows)) None) can)

  -- of another
  pub nothing_told : can_stand_for (row_type p) e ≡ false → IsToldOf p e x None
  nothing_told cannot r plan =
      sym (ap (λ b. cond b (given_decision (rows_at (mode_of r) (row_name p) (row_type p) e x (rows_view r))) None) cannot)

  where_given : (b : Bool) (q : Option model.Decision) (d : model.Decision) → Some d ≡ cond b q None → q ≡ Some d
  where_given true q d is = sym is
  where_given false q d is = absurd (cc)

  pub decides : (result : Option Decision) → IsToldOf p e x (option_map decision_view result)
      → IfSome result (λ d. DecidesAt p e x (decision_view d))
  decides None is = tt
  decides (Some d) is = λ r plan X ans w ps stand row.
      decided_at (mode_of r) (row_name p) (row_type p) e x X ans w row ps (rows_view r) stand (decision_view d)
      (where_given (can_stand_for (row_type p) e) _ (decision_view d) (is r plan))

pub ruleset answering = (nothing_told)
