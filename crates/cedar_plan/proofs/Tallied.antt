-- How a plan's policies stand at a row is how the response's rows do, with what the row tells in place of residuals.
use Rattle.std.proofs.Common.{◌≡◌, ◌∙◌, Bool, true, false, cond, ◌&&◌, ◌||◌, List, [], ◌∷◌, map, Option, Some, None, refl, sym, ap}
use Rattle.cedar_model.specs.Terms.{Text, EntityName, ValueType, Term}
use Rattle.cedar_model.specs.Settings.{StoredEntity}
use Rattle.cedar_model.specs.Policies.{Effect, permit, forbid, Verdict, satisfied, unsatisfied, erring, verdict}
use Rattle.cedar_model.specs.Policies.{ErrorHandling, skip, forbid_on_error}
use Rattle.cedar_model.specs.Responses.{Reported, reported_true, reported_false, reported_residual, Row, counted_report}
use Rattle.cedar_model.specs.Responses.{clause_of}
use Rattle.cedar_model.specs.Chains.{is_true, is_residual, has_effect, rows_of}
use Rattle.cedar_model.specs.Reports.{some_row, trues, residuals}
use Rattle.cedar_filter.specs.Simplifying.{simplified}
use Rattle.cedar_filter.specs.Faults.{condition_fault, can_stand_for}
use Rattle.cedar_filter.specs.Rows.{Told, tells, untold, condition_told}
use Rattle.cedar_plan.specs.declared.policies.PlannedPolicies.{PlannedPolicies}
use Rattle.cedar_plan.specs.Planned.{planned, planned_by, planned_row, row_policies_view, satisfied_in}
use Rattle.cedar_plan.specs.Planned.{residuals_in, some_of, HasPolicies}
use Rattle.cedar_plan.specs.Told.{errs_count, verdict_counts, counts_as, counts_at, is_counted, is_untold, some_counts}
use Rattle.cedar_plan.specs.Told.{some_untold, reported_verdict, told_report, residual_report, report_at, row_at, rows_at}

-- ---- bools

pub or_shuffle : (p q s t : Bool) → ((p || q) || (s || t)) ≡ ((p || s) || (q || t))
or_shuffle true q s t = refl
or_shuffle false true true t = refl
or_shuffle false true false t = refl
or_shuffle false false s t = refl

-- ---- lists

pub some_of_map : {A B : Type 0} (f : A → B) (xs : List A) → some_of (map f xs) ≡ some_of xs
unfolding some_of
some_of_map f [] = refl
some_of_map f (x ∷ xs) = refl

pub some_row_is : (rows : List Row) → some_row rows ≡ some_of rows
unfolding some_row some_of
some_row_is [] = refl
some_row_is (r ∷ rs) = refl

-- the first row of a kind, and the others
pub some_first : (p q : Bool) (r : Row) (rs : List Row) → some_row (cond p (cond q (r ∷ rs) rs) rs) ≡ ((p && q) || some_row rs)
unfolding some_row
some_first true true r rs = refl
some_first true false r rs = refl
some_first false q r rs = refl

module _ (mode : ErrorHandling) (n : Text) (a : Option ValueType) (e : EntityName) (x : StoredEntity)
    (can : can_stand_for a e ≡ true) where
  -- ---- one residual

  verdict_counted : (m : ErrorHandling) (effect : Effect) (v : Verdict)
      → verdict_counts (errs_count m effect) v ≡ is_true (counted_report m effect (reported_verdict v))
  unfolding is_true counted_report
  verdict_counted skip effect satisfied = refl
  verdict_counted skip effect unsatisfied = refl
  verdict_counted skip effect erring = refl
  verdict_counted forbid_on_error permit satisfied = refl
  verdict_counted forbid_on_error permit unsatisfied = refl
  verdict_counted forbid_on_error permit erring = refl
  verdict_counted forbid_on_error forbid satisfied = refl
  verdict_counted forbid_on_error forbid unsatisfied = refl
  verdict_counted forbid_on_error forbid erring = refl

  verdict_is_told : (m : ErrorHandling) (effect : Effect) (v : Verdict)
      → false ≡ is_residual (counted_report m effect (reported_verdict v))
  unfolding is_residual counted_report
  verdict_is_told skip effect satisfied = refl
  verdict_is_told skip effect unsatisfied = refl
  verdict_is_told skip effect erring = refl
  verdict_is_told forbid_on_error permit satisfied = refl
  verdict_is_told forbid_on_error permit unsatisfied = refl
  verdict_is_told forbid_on_error permit erring = refl
  verdict_is_told forbid_on_error forbid satisfied = refl
  verdict_is_told forbid_on_error forbid unsatisfied = refl
  verdict_is_told forbid_on_error forbid erring = refl

  told_counted : (effect : Effect) (t : Term) (q : Told)
      → is_counted (counts_as (errs_count mode effect) q) ≡ is_true (told_report mode n a e x effect t q)
  unfolding is_true
  told_counted effect t (tells o) = verdict_counted mode effect (verdict o)
  told_counted effect t untold = refl

  told_untold : (effect : Effect) (t : Term) (q : Told)
      → is_untold (counts_as (errs_count mode effect) q) ≡ is_residual (told_report mode n a e x effect t q)
  unfolding is_residual
  told_untold effect t (tells o) = verdict_is_told mode effect (verdict o)
  told_untold effect t untold = refl

  residual_counted : (effect : Effect) (t : Term) (fault : Option Term)
      → is_counted (counts_at (errs_count mode effect) e x (planned_by n a fault (simplified t)))
      ≡ is_true (residual_report mode n a e x effect t fault)
  unfolding is_true
  residual_counted effect t None =
      ap (λ b. is_counted (cond b (counts_as (errs_count mode effect) (condition_told n e x (simplified t))) None)) can
      ∙ told_counted effect t (condition_told n e x (simplified t))
  residual_counted effect t (Some part) = refl

  residual_untold : (effect : Effect) (t : Term) (fault : Option Term)
      → is_untold (counts_at (errs_count mode effect) e x (planned_by n a fault (simplified t)))
      ≡ is_residual (residual_report mode n a e x effect t fault)
  unfolding is_residual
  residual_untold effect t None =
      ap (λ b. is_untold (cond b (counts_as (errs_count mode effect) (condition_told n e x (simplified t))) None)) can
      ∙ told_untold effect t (condition_told n e x (simplified t))
  residual_untold effect t (Some part) = refl

  -- ---- one row

  abbrev asks : Effect → Reported → Option Bool
  asks effect o = counts_at (errs_count mode effect) e x (planned n a (clause_of o))

  report_counted : (effect : Effect) (o : Reported)
      → (is_true o || (is_residual o && is_counted (asks effect o))) ≡ is_true (report_at mode n a e x effect o)
  unfolding is_true is_residual clause_of
  report_counted effect reported_true = refl
  report_counted effect (reported_false b) = refl
  report_counted effect (reported_residual t) = residual_counted effect t (condition_fault n a (simplified t))

  report_untold : (effect : Effect) (o : Reported)
      → (is_residual o && is_untold (asks effect o)) ≡ is_residual (report_at mode n a e x effect o)
  unfolding is_residual clause_of
  report_untold effect reported_true = refl
  report_untold effect (reported_false b) = refl
  report_untold effect (reported_residual t) = residual_untold effect t (condition_fault n a (simplified t))

  row_counted : (effect of_row : Effect) (o : Reported)
      → ((has_effect effect of_row && is_true o) || (has_effect effect of_row && (is_residual o && is_counted (asks effect o))))
      ≡ (has_effect effect of_row && is_true (report_at mode n a e x of_row o))
  unfolding has_effect
  row_counted permit permit o = report_counted permit o
  row_counted permit forbid o = refl
  row_counted forbid permit o = refl
  row_counted forbid forbid o = report_counted forbid o

  row_untold : (effect of_row : Effect) (o : Reported)
      → (has_effect effect of_row && (is_residual o && is_untold (asks effect o)))
      ≡ (has_effect effect of_row && is_residual (report_at mode n a e x of_row o))
  unfolding has_effect
  row_untold permit permit o = report_untold permit o
  row_untold permit forbid o = refl
  row_untold forbid permit o = refl
  row_untold forbid forbid o = report_untold forbid o

  -- ---- all rows

  module _ (effect : Effect) where
    abbrev count : List Row → Bool
    count rows = some_counts (errs_count mode effect) e x (map (planned_row n a) rows)

    abbrev untolds : List Row → Bool
    untolds rows = some_untold (errs_count mode effect) e x (map (planned_row n a) rows)

    counts_first : (p q : Bool) (r : Row) (rs : List Row)
        → count (cond p (cond q (r ∷ rs) rs) rs) ≡ ((p && (q && is_counted (asks effect r.reported))) || count rs)
    unfolding some_counts
    counts_first true true r rs = refl
    counts_first true false r rs = refl
    counts_first false q r rs = refl

    untold_first : (p q : Bool) (r : Row) (rs : List Row)
        → untolds (cond p (cond q (r ∷ rs) rs) rs) ≡ ((p && (q && is_untold (asks effect r.reported))) || untolds rs)
    unfolding some_untold
    untold_first true true r rs = refl
    untold_first true false r rs = refl
    untold_first false q r rs = refl

    pub rows_count : (rows : List Row)
        → (some_row (trues effect rows) || count (residuals effect rows)) ≡ some_row (trues effect (rows_at mode n a e x rows))
    unfolding rows_of some_row some_counts
    rows_count [] = refl
    rows_count (r ∷ rs) =
        (λ i. some_first (has_effect effect r.effect) (is_true r.reported) r (trues effect rs) i
        || counts_first (has_effect effect r.effect) (is_residual r.reported) r (residuals effect rs) i)
        ∙ or_shuffle (has_effect effect r.effect && is_true r.reported) (some_row (trues effect rs))
        (has_effect effect r.effect && (is_residual r.reported && is_counted (asks effect r.reported))) (count (residuals effect rs))
        ∙ (λ i. row_counted effect r.effect r.reported i || rows_count rs i)
        ∙ sym (some_first (has_effect effect r.effect) (is_true (report_at mode n a e x r.effect r.reported)) (row_at mode n a e x r) (trues effect (rows_at mode n a e x rs)))

    pub rows_untold : (rows : List Row)
        → untolds (residuals effect rows) ≡ some_row (residuals effect (rows_at mode n a e x rows))
    unfolding rows_of some_row some_untold
    rows_untold [] = refl
    rows_untold (r ∷ rs) =
        untold_first (has_effect effect r.effect) (is_residual r.reported) r (residuals effect rs)
        ∙ (λ i. row_untold effect r.effect r.reported i || rows_untold rs i)
        ∙ sym (some_first (has_effect effect r.effect) (is_residual (report_at mode n a e x r.effect r.reported)) (row_at mode n a e x r) (residuals effect (rows_at mode n a e x rs)))

    module _ (rows : List Row) (p : PlannedPolicies) (has : HasPolicies n a (trues effect rows) (residuals effect rows) p) where
      -- one counts where a row is true
      pub counted : (some_of (satisfied_in p) || some_counts (errs_count mode effect) e x (row_policies_view (residuals_in p)))
          ≡ some_row (trues effect (rows_at mode n a e x rows))
      counted =
          (λ i. (sym (some_of_map _ (satisfied_in p)) ∙ ap some_of has.satisfied ∙ some_of_map _ (trues effect rows) ∙ sym (some_row_is (trues effect rows))) i
          || some_counts (errs_count mode effect) e x (has.asked i))
          ∙ rows_count rows

      -- and is not told where a row is residual
      pub left_open : some_untold (errs_count mode effect) e x (row_policies_view (residuals_in p))
          ≡ some_row (residuals effect (rows_at mode n a e x rows))
      left_open = ap (some_untold (errs_count mode effect) e x) has.asked ∙ rows_untold rows
