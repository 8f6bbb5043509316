-- The decision that is known is told of each entity, and the policies decide so.
use Rattle.std.proofs.Common.{◌≡◌, ◌∙◌, Bool, true, false, cond, ◌||◌, List, [], ◌∷◌, map, Option, Some, None, IfSome, option_map, refl, sym, ap}
use Rattle.cedar_model.specs.Terms.{Text, EntityName, ValueType}
use Rattle.cedar_model.specs.Settings.{StoredEntity}
use Rattle.cedar_model.specs.Policies as model
use Rattle.cedar_model.specs.Policies.{Effect, permit, forbid, allow, deny}
use Rattle.cedar_model.specs.Responses.{Row}
use Rattle.cedar_model.specs.Reports.{some_row, trues, residuals, given_decision}
use Rattle.cedar_model.proofs.Bounds.{reports_hold}
use Rattle.cedar_decisions.specs.declared.decision.Decision.{Decision}
use Rattle.cedar_decisions.specs.Decisions.{decision_view, known_decision}
use Rattle.cedar_authorizer.specs.responses.Rows.{mode_of, rows_view}
use Rattle.cedar_plan.specs.declared.plans.Plan.{Plan}
use Rattle.cedar_plan.specs.declared.policies.PlannedPolicies.{PlannedPolicies}
use Rattle.cedar_plan.specs.Planned.{plan_permits, plan_forbids, row_name, row_type, planned_row}
use Rattle.cedar_plan.specs.Planned.{satisfied_in, residuals_in, some_of, HasPolicies}
use Rattle.cedar_plan.specs.Told.{errs_count, some_counts, some_untold, rows_at}
use Rattle.cedar_plan.specs.Worlds.{IsGiven, IsToldOfEach, DecidesAlways}
use Rattle.cedar_plan.proofs.Tallied.{some_of_map, some_row_is, rows_count, rows_untold}

-- ---- what is given

module _ (n : Text) (a : Option ValueType) (ts rs : List Row) (p : PlannedPolicies) (has : HasPolicies n a ts rs p) where
  pub some_satisfied : some_of (satisfied_in p) ≡ some_row ts
  some_satisfied = sym (some_of_map _ (satisfied_in p)) ∙ ap some_of has.satisfied ∙ some_of_map _ ts ∙ sym (some_row_is ts)

  pub some_residual : some_of (residuals_in p) ≡ some_row rs
  some_residual = sym (some_of_map _ (residuals_in p)) ∙ ap some_of has.asked ∙ some_of_map _ rs ∙ sym (some_row_is rs)

module _ (p : Plan) where
  pub given : (d : Option model.Decision) (pt pr ft fr : Bool) → pt ≡ some_of (satisfied_in (plan_permits p))
      → pr ≡ some_of (residuals_in (plan_permits p)) → ft ≡ some_of (satisfied_in (plan_forbids p))
      → fr ≡ some_of (residuals_in (plan_forbids p)) → d ≡ known_decision pt pr ft fr → IsGiven p d
  given d pt pr ft fr a b c f is r plan =
      is ∙ (λ i. known_decision
      ((a ∙ some_satisfied (row_name p) (row_type p) _ _ (plan_permits p) plan.permits) i)
      ((b ∙ some_residual (row_name p) (row_type p) _ _ (plan_permits p) plan.permits) i)
      ((c ∙ some_satisfied (row_name p) (row_type p) _ _ (plan_forbids p) plan.forbids) i)
      ((f ∙ some_residual (row_name p) (row_type p) _ _ (plan_forbids p) plan.forbids) i))

  pub always : (result : Option Decision) → IsGiven p (option_map decision_view result)
      → IfSome result (λ d. DecidesAlways p (decision_view d))
  always None is = tt
  always (Some d) is = λ r plan mode X ans w ps stand.
      (reports_hold mode X ans w ps (rows_view r) stand).decision_holds (decision_view d) (sym (is r plan))

-- ---- what stays

none_counts : (errs : Bool) (e : EntityName) (x : StoredEntity) (n : Text) (a : Option ValueType) (rows : List Row)
    → some_row rows ≡ false → some_counts errs e x (map (planned_row n a) rows) ≡ false
unfolding some_row some_counts
none_counts errs e x n a [] h = refl
none_counts errs e x n a (r ∷ rs) h = absurd (cc)

none_untold : (errs : Bool) (e : EntityName) (x : StoredEntity) (n : Text) (a : Option ValueType) (rows : List Row)
    → some_row rows ≡ false → some_untold errs e x (map (planned_row n a) rows) ≡ false
unfolding some_row some_untold
none_untold errs e x n a [] h = refl
none_untold errs e x n a (r ∷ rs) h = absurd (cc)

open_is_none : (d : model.Decision) → None ≡ Some d → ⊥
open_is_none d h = cc

without : (pc po fc fo : Bool) → pc ≡ false → po ≡ false → known_decision pc po fc fo ≡ Some deny
without pc po true fo a b = refl
without true po false fo a b = absurd (cc)
without false true false fo a b = absurd (cc)
without false false false fo a b = refl

with_permit : (po fc fo : Bool) → fc ≡ false → fo ≡ false → known_decision true po fc fo ≡ Some allow
with_permit po true fo a b = absurd (cc)
with_permit po false true a b = absurd (cc)
with_permit po false false a b = refl

-- with more that count, and fewer that are open
stays : (pt pr ft fr pc po fc fo : Bool) → (pr ≡ false → pc ≡ false) → (pr ≡ false → po ≡ false)
    → (fr ≡ false → fc ≡ false) → (fr ≡ false → fo ≡ false) → (d : model.Decision)
    → known_decision pt pr ft fr ≡ Some d → known_decision (pt || pc) po (ft || fc) fo ≡ Some d
stays pt pr true fr pc po fc fo a b c f d h = h
stays true pr false true pc po fc fo a b c f d h = absurd (open_is_none d h)
stays true pr false false pc po fc fo a b c f d h = with_permit po fc fo (c refl) (f refl) ∙ h
stays false false false fr pc po fc fo a b c f d h = without pc po fc fo (a refl) (b refl) ∙ h
stays false true false true pc po fc fo a b c f d h = absurd (open_is_none d h)
stays false true false false pc po fc fo a b c f d h = absurd (open_is_none d h)

module _ (p : Plan) where
  pub of_each : (result : Option Decision) → IsGiven p (option_map decision_view result)
      → IfSome result (λ d. IsToldOfEach p (decision_view d))
  of_each None is = tt
  of_each (Some d) is = λ r plan e x can.
      let m = mode_of r in
      let n = row_name p in
      let a = row_type p in
      let rows = rows_view r in
      let errs = errs_count m in
      ap (λ b. cond b (given_decision (rows_at m n a e x rows)) None) can
      ∙ sym (λ i. known_decision (rows_count m n a e x can permit rows i) (rows_untold m n a e x can permit rows i)
      (rows_count m n a e x can forbid rows i) (rows_untold m n a e x can forbid rows i))
      ∙ stays (some_row (trues permit rows)) (some_row (residuals permit rows)) (some_row (trues forbid rows))
      (some_row (residuals forbid rows)) _ _ _ _
      (none_counts (errs permit) e x n a (residuals permit rows)) (none_untold (errs permit) e x n a (residuals permit rows))
      (none_counts (errs forbid) e x n a (residuals forbid rows)) (none_untold (errs forbid) e x n a (residuals forbid rows))
      (decision_view d) (sym (is r plan))
