-- Where a response stands in a world that has the row, so do its rows with what the row tells in place of residuals.
use Rattle.std.proofs.Common.{◌≡◌, ◌∙◌, true, false, List, [], ◌∷◌, Option, Some, None, refl, sym, ap, subst}
use Rattle.std.specs.Prelude.{◌≢◌}
use Rattle.cedar_model.specs.Terms.{Text, EntityName, ValueType, Term, bool_literal, long_literal, text_literal, entity_literal}
use Rattle.cedar_model.specs.Values.{AbstractValue, plain, set_value, record_value, extension_value}
use Rattle.cedar_model.specs.Outcomes.{Outcome, gives, errs, gives_bool, bool_of, and_then, needing}
use Rattle.cedar_model.specs.Settings.{StoredEntity}
use Rattle.cedar_model.specs.World.{World, Extensions, Functions}
use Rattle.cedar_model.specs.Meaning.{meaning, and_then_bool}
use Rattle.cedar_model.specs.Agreement.{HaveSameOutcome, outcome_value, no_slots}
use Rattle.cedar_model.specs.Policies.{Effect, permit, forbid, Policy, Verdict, satisfied, unsatisfied, erring, verdict}
use Rattle.cedar_model.specs.Policies.{Decision, ErrorHandling, skip, forbid_on_error, counted_verdict, decision, counted_each}
use Rattle.cedar_model.specs.Reordering.{IsReordering, nothing, keeping, swapping, chaining}
use Rattle.cedar_model.specs.Responses.{Reported, reported_true, reported_false, reported_residual, Row, counted_report}
use Rattle.cedar_model.specs.Responses.{ErrsAs, StandsAs, StandInOrder, Stand}
use Rattle.cedar_model.specs.Reports.{given_decision}
use Rattle.cedar_model.proofs.Bounds.{reports_hold}
use Rattle.cedar_filter.specs.Simplifying.{simplified}
use Rattle.cedar_filter.specs.Faults.{condition_fault}
use Rattle.cedar_filter.specs.Rows.{Told, tells, untold, tells_bool, told, condition_told, HasRow}
use Rattle.cedar_filter.proofs.Telling.{Follows, follows, bool_follows, tells_follows}
use Rattle.cedar_filter.proofs.Same.{means_the_same}
use Rattle.cedar_plan.specs.Told.{reported_verdict, told_report, residual_report, report_at, row_at, rows_at}

-- ---- verdicts

-- a value that is no bool errs, whether it is asked for one or not
bool_asked : (v : AbstractValue) → verdict (and_then_bool (gives v) gives_bool) ≡ verdict (gives v)
unfolding verdict and_then needing bool_of
bool_asked (plain (bool_literal b)) = refl
bool_asked (plain (long_literal n)) = refl
bool_asked (plain (text_literal t)) = refl
bool_asked (plain (entity_literal d)) = refl
bool_asked (set_value vs) = refl
bool_asked (record_value fs) = refl
bool_asked (extension_value t k) = refl

asked : (o : Outcome) → verdict (and_then_bool o gives_bool) ≡ verdict o
unfolding verdict and_then
asked (gives v) = bool_asked v
asked (errs k) = refl

value_of : Option AbstractValue → AbstractValue → AbstractValue
value_of None u = u
value_of (Some v) u = v

same_verdict : (o p : Outcome) → HaveSameOutcome o p → verdict o ≡ verdict p
unfolding outcome_value verdict value_of
same_verdict (gives u) (gives v) h = ap (λ (q : Option AbstractValue). verdict (gives (value_of q u))) h
same_verdict (gives u) (errs k) h = absurd (cc)
same_verdict (errs k) (gives v) h = absurd (cc)
same_verdict (errs j) (errs k) h = refl

-- ---- what stands

unsatisfied_isn't : unsatisfied ≢ satisfied
unsatisfied_isn't h = cc

-- what is reported of a verdict stands, as it counts
counted_stands : (mode : ErrorHandling) (effect : Effect) (V v : Verdict) → V ≡ v → (P : Reported → Type 0)
    → (counted_verdict mode effect V ≡ satisfied → P reported_true) → (ErrsAs mode effect V → P (reported_false true))
    → (counted_verdict mode effect V ≢ satisfied → P (reported_false false))
    → P (counted_report mode effect (reported_verdict v))
unfolding counted_verdict counted_report
counted_stands skip effect V satisfied h P f g k = f h
counted_stands skip effect V unsatisfied h P f g k = k (λ z. unsatisfied_isn't (sym h ∙ z))
counted_stands skip effect V erring h P f g k = g h
counted_stands forbid_on_error permit V satisfied h P f g k = f h
counted_stands forbid_on_error permit V unsatisfied h P f g k = k (λ z. unsatisfied_isn't (sym h ∙ z))
counted_stands forbid_on_error permit V erring h P f g k = g h
counted_stands forbid_on_error forbid V satisfied h P f g k = f (ap (counted_verdict forbid_on_error forbid) h)
counted_stands forbid_on_error forbid V unsatisfied h P f g k = k (λ z. unsatisfied_isn't (sym (ap (counted_verdict forbid_on_error forbid) h) ∙ z))
counted_stands forbid_on_error forbid V erring h P f g k = f (ap (counted_verdict forbid_on_error forbid) h)

module _ (mode : ErrorHandling) (n : Text) (a : Option ValueType) (e : EntityName) (x : StoredEntity)
    (X : Extensions) (ans : Functions) (w : World) (row : HasRow X ans w n e x) where
  -- what the row tells of a condition is what it means as one
  condition_follows : (t : Term) → Follows (condition_told n e x t) (and_then_bool (meaning X ans w no_slots t) gives_bool)
  condition_follows t =
      bool_follows (told n e x t) (meaning X ans w no_slots t) tells_bool gives_bool (follows X ans w no_slots n e x row t) (λ b. tells_follows (gives_bool b))

  verdict_told : (t : Term) (o p : Outcome) → condition_told n e x (simplified t) ≡ tells o
      → HaveSameOutcome (meaning X ans w no_slots t) p → verdict p ≡ verdict o
  verdict_told t o p is same =
      sym (same_verdict (meaning X ans w no_slots t) p same)
      ∙ sym (ap verdict (means_the_same X ans w no_slots t))
      ∙ sym (asked (meaning X ans w no_slots (simplified t)))
      ∙ ap verdict (condition_follows (simplified t) o is)

  module _ (p : Policy) where
    told_stands : (t : Term) (q : Told) → condition_told n e x (simplified t) ≡ q → StandsAs mode X ans w p (reported_residual t)
        → StandsAs mode X ans w p (told_report mode n a e x p.effect t q)
    told_stands t (tells o) is h =
        counted_stands mode p.effect (verdict (meaning X ans w p.slots p.condition)) (verdict o)
        (verdict_told t o (meaning X ans w p.slots p.condition) is h.1) (StandsAs mode X ans w p) (λ z. z) (λ z. z) (λ z. z)
    told_stands t untold is h = h

    residual_stands : (t : Term) (fault : Option Term) → StandsAs mode X ans w p (reported_residual t)
        → StandsAs mode X ans w p (residual_report mode n a e x p.effect t fault)
    residual_stands t None h = told_stands t (condition_told n e x (simplified t)) refl h
    residual_stands t (Some part) h = h

    report_stands : (o : Reported) → StandsAs mode X ans w p o → StandsAs mode X ans w p (report_at mode n a e x p.effect o)
    report_stands reported_true h = h
    report_stands (reported_false true) h = h
    report_stands (reported_false false) h = h
    report_stands (reported_residual t) h = residual_stands t (condition_fault n a (simplified t)) h

  in_order_stands : (ps : List Policy) (rows : List Row) → StandInOrder mode X ans w ps rows
      → StandInOrder mode X ans w ps (rows_at mode n a e x rows)
  in_order_stands [] [] h = h
  in_order_stands [] (r ∷ rs) h = absurd h
  in_order_stands (p ∷ ps) [] h = absurd h
  in_order_stands (p ∷ ps) (r ∷ rs) h = (
    h.0,
    h.1,
    subst (λ (effect : Effect). StandsAs mode X ans w p (report_at mode n a e x effect r.reported)) (sym h.1) (report_stands p r.reported h.2),
    in_order_stands ps rs h.3,
  )

  reordered : {xs ys : List Row} → IsReordering Row xs ys → IsReordering Row (rows_at mode n a e x xs) (rows_at mode n a e x ys)
  reordered nothing = nothing
  reordered (keeping r h) = keeping (row_at mode n a e x r) (reordered h)
  reordered (swapping r q) = swapping (row_at mode n a e x r) (row_at mode n a e x q)
  reordered (chaining h k) = chaining (reordered h) (reordered k)

  stand_at : (ps : List Policy) (rows : List Row) → Stand mode X ans w ps rows → Stand mode X ans w ps (rows_at mode n a e x rows)
  stand_at ps rows h = (rows_at mode n a e x h.0, reordered h.1, in_order_stands ps h.0 h.2)

  -- the decision that they give is that of the policies
  pub decided_at : (ps : List Policy) (rows : List Row) → Stand mode X ans w ps rows
      → (d : Decision) → given_decision (rows_at mode n a e x rows) ≡ Some d → decision (counted_each mode X ans w ps) ≡ d
  decided_at ps rows h d given = (reports_hold mode X ans w ps (rows_at mode n a e x rows) (stand_at ps rows h)).decision_holds d given
