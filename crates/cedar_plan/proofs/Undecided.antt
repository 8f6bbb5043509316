-- Where no decision is given, what is residual can make it Allow, and can make it Deny.
use Rattle.std.proofs.Common.{◌≡◌, ◌∙◌, Bool, true, false, cond, ◌&&◌, ◌||◌, List, [], ◌∷◌, Option, Some, None, IfNone, option_map, refl, sym, ap}
use Rattle.cedar_model.specs.Terms.{EntityName}
use Rattle.cedar_model.specs.Settings.{StoredEntity}
use Rattle.cedar_model.specs.Policies as model
use Rattle.cedar_model.specs.Policies.{Effect, permit, forbid, allow, deny}
use Rattle.cedar_model.specs.Responses.{Reported, reported_true, reported_false, reported_residual, Row}
use Rattle.cedar_model.specs.Chains.{is_true, is_residual, has_effect, rows_of}
use Rattle.cedar_model.specs.Reports.{some_row, trues, residuals, given_decision}
use Rattle.cedar_decisions.specs.declared.decision.Decision.{Decision}
use Rattle.cedar_decisions.specs.Decisions.{decision_view, known_decision}
use Rattle.cedar_authorizer.specs.responses.Rows.{mode_of, rows_view}
use Rattle.cedar_plan.specs.declared.plans.Plan.{Plan}
use Rattle.cedar_plan.specs.Planned.{row_name, row_type}
use Rattle.cedar_plan.specs.Told.{rows_at, settled_report, settled_row, settled_for, CanGoEitherWay}
use Rattle.cedar_plan.specs.Worlds.{IsToldOf, IsOpenAt}
use Rattle.cedar_plan.proofs.Tallied.{some_first, or_shuffle}

none_false : (p : Bool) → (p && false) ≡ false
none_false true = refl
none_false false = refl

report_true : (holds : Bool) (o : Reported) → is_true (settled_report holds o) ≡ (is_true o || (holds && is_residual o))
unfolding is_true is_residual
report_true true reported_true = refl
report_true false reported_true = refl
report_true true (reported_false b) = refl
report_true false (reported_false b) = refl
report_true true (reported_residual t) = refl
report_true false (reported_residual t) = refl

report_settled : (holds : Bool) (o : Reported) → is_residual (settled_report holds o) ≡ false
unfolding is_residual
report_settled true reported_true = refl
report_settled false reported_true = refl
report_settled true (reported_false b) = refl
report_settled false (reported_false b) = refl
report_settled true (reported_residual t) = refl
report_settled false (reported_residual t) = refl

-- of the effect `e`, where rows of the effect `g` are looked at
row_true : (e g of_row : Effect) (o : Reported) → (has_effect g of_row && is_true (settled_report (has_effect e of_row) o))
    ≡ ((has_effect g of_row && is_true o) || (has_effect e g && (has_effect g of_row && is_residual o)))
unfolding has_effect
row_true permit permit permit o = report_true true o
row_true permit permit forbid o = refl
row_true permit forbid permit o = refl
row_true permit forbid forbid o = report_true false o
row_true forbid permit permit o = report_true false o
row_true forbid permit forbid o = refl
row_true forbid forbid permit o = refl
row_true forbid forbid forbid o = report_true true o

and_or : (p q s : Bool) → ((p && q) || (p && s)) ≡ (p && (q || s))
and_or true q s = refl
and_or false q s = refl

module _ (e g : Effect) where
  settled_true : (rows : List Row)
      → some_row (trues g (settled_for e rows)) ≡ (some_row (trues g rows) || (has_effect e g && some_row (residuals g rows)))
  unfolding rows_of some_row
  settled_true [] = sym (none_false (has_effect e g))
  settled_true (r ∷ rs) =
      some_first (has_effect g r.effect) (is_true (settled_report (has_effect e r.effect) r.reported)) (settled_row e r) (trues g (settled_for e rs))
      ∙ (λ i. row_true e g r.effect r.reported i || settled_true rs i)
      ∙ or_shuffle (has_effect g r.effect && is_true r.reported) (has_effect e g && (has_effect g r.effect && is_residual r.reported))
      (some_row (trues g rs)) (has_effect e g && some_row (residuals g rs))
      ∙ (λ i. sym (some_first (has_effect g r.effect) (is_true r.reported) r (trues g rs)) i
      || (and_or (has_effect e g) (has_effect g r.effect && is_residual r.reported) (some_row (residuals g rs))
      ∙ ap (λ b. has_effect e g && b) (sym (some_first (has_effect g r.effect) (is_residual r.reported) r (residuals g rs)))) i)

  settled_residual : (rows : List Row) → some_row (residuals g (settled_for e rows)) ≡ false
  unfolding rows_of some_row
  settled_residual [] = refl
  settled_residual (r ∷ rs) =
      some_first (has_effect g r.effect) (is_residual (settled_report (has_effect e r.effect) r.reported)) (settled_row e r) (residuals g (settled_for e rs))
      ∙ (λ i. (has_effect g r.effect && report_settled (has_effect e r.effect) r.reported i) || settled_residual rs i)
      ∙ ap (λ b. b || false) (none_false (has_effect g r.effect))

is_some_decision : (d : model.Decision) → Some d ≡ None → ⊥
is_some_decision d h = cc

can_allow : (pt pr ft fr : Bool) → known_decision pt pr ft fr ≡ None
    → known_decision (pt || pr) false (ft || false) false ≡ Some allow
can_allow pt pr true fr h = absurd (is_some_decision deny h)
can_allow true pr false fr h = refl
can_allow false true false fr h = refl
can_allow false false false fr h = absurd (is_some_decision deny h)

can_deny : (pt pr ft fr : Bool) → known_decision pt pr ft fr ≡ None
    → known_decision (pt || false) false (ft || fr) false ≡ Some deny
can_deny pt pr true fr h = refl
can_deny true pr false true h = refl
can_deny true pr false false h = absurd (is_some_decision allow h)
can_deny false pr false true h = refl
can_deny false pr false false h = refl

pub either_way : (rows : List Row) → given_decision rows ≡ None → CanGoEitherWay rows
unfolding has_effect
either_way rows h =
    let pt = some_row (trues permit rows) in
    let pr = some_row (residuals permit rows) in
    let ft = some_row (trues forbid rows) in
    let fr = some_row (residuals forbid rows) in (
      (λ i. known_decision (settled_true permit permit rows i) (settled_residual permit permit rows i)
          (settled_true permit forbid rows i) (settled_residual permit forbid rows i))
          ∙ can_allow pt pr ft fr h,
      (λ i. known_decision (settled_true forbid permit rows i) (settled_residual forbid permit rows i)
          (settled_true forbid forbid rows i) (settled_residual forbid forbid rows i))
          ∙ can_deny pt pr ft fr h,
    )

module _ (p : Plan) (e : EntityName) (x : StoredEntity) where
  pub is_open : (result : Option Decision) → IsToldOf p e x (option_map decision_view result) → IfNone result (IsOpenAt p e x)
  is_open (Some d) is = tt
  is_open None is = λ r plan can.
      let rows = rows_at (mode_of r) (row_name p) (row_type p) e x (rows_view r) in
      either_way rows (sym (is r plan ∙ ap (λ b. cond b (given_decision rows) None) can))
