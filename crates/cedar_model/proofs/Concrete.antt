-- What a response comes out as when it is made concrete.
use Rattle.std.specs.Prelude.{◌≡◌, ◌⊎◌, ℕ, Bool, true, false, cond, not, ◌&&◌, ◌||◌, List, [], ◌∷◌, ◌++◌, map, Option}
use Rattle.std.specs.Prelude.{Some, None}
use Rattle.std.proofs.Common.{refl, sym, ap, ◌∙◌, subst, inl, inr}
use Rattle.std.proofs.Math.Bool.{or-false, or-true}
use Rattle.cedar_model.specs.Terms.{Text}
use Rattle.cedar_model.specs.Values.{abstract_value}
use Rattle.cedar_model.specs.Outcomes.{bool_of, has_text}
use Rattle.cedar_model.specs.World.{World, Extensions, Functions}
use Rattle.cedar_model.specs.Failures.{Failure, value, residual, Answer, answers, fails}
use Rattle.cedar_model.specs.Settings.{Setting}
use Rattle.cedar_model.specs.Rules.{StoredCalls}
use Rattle.cedar_model.specs.Policies.{Effect, permit, forbid, Policy, Decision, allow, deny, is_satisfied_by}
use Rattle.cedar_model.specs.Policies.{some_satisfied, satisfied_ids, decision, reasons, Judged}
use Rattle.cedar_model.specs.Policies.{ErrorHandling, skip, forbid_on_error, counted_verdict, counting, counted_each}
use Rattle.cedar_model.specs.Responses
use Rattle.cedar_model.specs.Responses.{Reported, reported_true, reported_false, reported_residual, Row}
use Rattle.cedar_model.specs.Chains.{is_true, is_residual, has_effect, rows_of}
use Rattle.cedar_model.specs.Authorizations
use Rattle.cedar_model.specs.laws.Authorizations.{PolicyRuns}
use Rattle.cedar_model.specs.Reports
use Rattle.cedar_model.specs.Reports.{some_row, ids, trues, residuals, judged_row, reported_verdict}
use Rattle.cedar_model.specs.laws.Reports as ReportLaws
use Rattle.cedar_model.proofs.Bounds
use Rattle.cedar_model.proofs.Counting.{is_open}
use Rattle.cedar_model.proofs.Injections.{none_is_not_some, same_bools}

-- ---- a given decision is the concrete one

given_by : (ft pt pr fr : Bool) (d : Decision) → cond ft (Some deny)
    (cond (not (pt || pr)) (Some deny) (cond fr None (cond pt (Some allow) None))) ≡ Some d
    → cond (pt && not ft) allow deny ≡ d
given_by true true pr fr d h = cc
given_by true false pr fr d h = cc
given_by false true pr true d h = absurd (none_is_not_some h)
given_by false true pr false d h = cc
given_by false false true true d h = absurd (none_is_not_some h)
given_by false false true false d h = absurd (none_is_not_some h)
given_by false false false fr d h = cc

given_beside : (ft pt pr fr : Bool) (d : Decision) → cond ft (Some deny)
    (cond (not (pt || pr)) (Some deny) (cond fr None (cond pt (Some allow) None))) ≡ Some d
    → cond (pt && not (ft || fr)) allow deny ≡ d
given_beside true true pr fr d h = cc
given_beside true false pr fr d h = cc
given_beside false true pr true d h = absurd (none_is_not_some h)
given_beside false true pr false d h = cc
given_beside false false true true d h = absurd (none_is_not_some h)
given_beside false false true false d h = absurd (none_is_not_some h)
given_beside false false false fr d h = cc

pub given_is_concrete : ReportLaws.GivenIsConcrete
given_is_concrete skip rows d h =
    given_by (some_row (trues forbid rows)) (some_row (trues permit rows)) (some_row (residuals permit rows))
    (some_row (residuals forbid rows)) d h
given_is_concrete forbid_on_error rows d h =
    given_beside (some_row (trues forbid rows)) (some_row (trues permit rows)) (some_row (residuals permit rows))
    (some_row (residuals forbid rows)) d h

-- ---- rows as verdicts

-- what is reported of a policy of the effect counts as satisfied
unfoldable counts : ErrorHandling → Effect → Reported → Bool
counts skip effect o = is_true o
counts forbid_on_error permit o = is_true o
counts forbid_on_error forbid o = is_open o

counted_by_report : (mode : ErrorHandling) (e g : Effect) (o : Reported)
    → is_satisfied_by e (counted_verdict mode g (reported_verdict mode g o)) g ≡ (has_effect e g && counts mode e o)
unfolding is_satisfied_by counted_verdict reported_verdict Reports.false_verdict has_effect is_true is_open counts
counted_by_report skip permit permit reported_true = refl
counted_by_report skip permit permit (reported_false true) = refl
counted_by_report skip permit permit (reported_false false) = refl
counted_by_report skip permit permit (reported_residual t) = refl
counted_by_report skip permit forbid reported_true = refl
counted_by_report skip permit forbid (reported_false true) = refl
counted_by_report skip permit forbid (reported_false false) = refl
counted_by_report skip permit forbid (reported_residual t) = refl
counted_by_report skip forbid permit reported_true = refl
counted_by_report skip forbid permit (reported_false true) = refl
counted_by_report skip forbid permit (reported_false false) = refl
counted_by_report skip forbid permit (reported_residual t) = refl
counted_by_report skip forbid forbid reported_true = refl
counted_by_report skip forbid forbid (reported_false true) = refl
counted_by_report skip forbid forbid (reported_false false) = refl
counted_by_report skip forbid forbid (reported_residual t) = refl
counted_by_report forbid_on_error permit permit reported_true = refl
counted_by_report forbid_on_error permit permit (reported_false true) = refl
counted_by_report forbid_on_error permit permit (reported_false false) = refl
counted_by_report forbid_on_error permit permit (reported_residual t) = refl
counted_by_report forbid_on_error permit forbid reported_true = refl
counted_by_report forbid_on_error permit forbid (reported_false true) = refl
counted_by_report forbid_on_error permit forbid (reported_false false) = refl
counted_by_report forbid_on_error permit forbid (reported_residual t) = refl
counted_by_report forbid_on_error forbid permit reported_true = refl
counted_by_report forbid_on_error forbid permit (reported_false true) = refl
counted_by_report forbid_on_error forbid permit (reported_false false) = refl
counted_by_report forbid_on_error forbid permit (reported_residual t) = refl
counted_by_report forbid_on_error forbid forbid reported_true = refl
counted_by_report forbid_on_error forbid forbid (reported_false true) = refl
counted_by_report forbid_on_error forbid forbid (reported_false false) = refl
counted_by_report forbid_on_error forbid forbid (reported_residual t) = refl

some_row_if : (a b : Bool) (r : Row) (xs : List Row)
    → some_row (cond a (cond b (r ∷ xs) xs) xs) ≡ ((a && b) || some_row xs)
unfolding some_row
some_row_if true true r xs = refl
some_row_if true false r xs = refl
some_row_if false true r xs = refl
some_row_if false false r xs = refl

some_counted : (mode : ErrorHandling) (e : Effect) (rows : List Row)
    → some_satisfied e (counting mode (map (judged_row mode) rows)) ≡ some_row (rows_of e (counts mode e) rows)
unfolding some_satisfied some_row rows_of
some_counted mode e [] = refl
some_counted mode e (r ∷ rs) =
    (λ i. counted_by_report mode e r.effect r.reported i || some_counted mode e rs i)
    ∙ sym (some_row_if (has_effect e r.effect) (counts mode e r.reported) r (rows_of e (counts mode e) rs))

ids_if : (a b : Bool) (r : Row) (xs : List Row) → ids (cond a (cond b (r ∷ xs) xs) xs)
    ≡ cond (a && b) (r.id ∷ ids xs) (ids xs)
ids_if true true r xs = refl
ids_if true false r xs = refl
ids_if false true r xs = refl
ids_if false false r xs = refl

counted_ids : (mode : ErrorHandling) (e : Effect) (rows : List Row)
    → satisfied_ids e (counting mode (map (judged_row mode) rows)) ≡ ids (rows_of e (counts mode e) rows)
unfolding satisfied_ids rows_of
counted_ids mode e [] = refl
counted_ids mode e (r ∷ rs) =
    (λ i. cond (counted_by_report mode e r.effect r.reported i) (r.id ∷ counted_ids mode e rs i)
    (counted_ids mode e rs i))
    ∙ sym (ids_if (has_effect e r.effect) (counts mode e r.reported) r (rows_of e (counts mode e) rs))

-- the open rows are the true and the residual ones
some_if_open : (a : Bool) (o : Reported) (x y z : Bool) → z ≡ (x || y)
    → ((a && is_open o) || z) ≡ (((a && is_true o) || x) || ((a && is_residual o) || y))
unfolding is_open is_true is_residual
some_if_open true reported_true x y z h = refl
some_if_open true (reported_false e) x y z h = h
some_if_open true (reported_residual t) x y z h = sym (or-true x)
some_if_open false o x y z h = h

some_open : (rows : List Row) → some_row (rows_of forbid is_open rows)
    ≡ (some_row (trues forbid rows) || some_row (residuals forbid rows))
unfolding some_row rows_of
some_open [] = refl
some_open (r ∷ rs) =
    some_row_if (has_effect forbid r.effect) (is_open r.reported) r (rows_of forbid is_open rs)
    ∙ some_if_open (has_effect forbid r.effect) r.reported (some_row (trues forbid rs)) (some_row (residuals forbid rs))
    (some_row (rows_of forbid is_open rs)) (some_open rs)
    ∙ (λ i. sym (some_row_if (has_effect forbid r.effect) (is_true r.reported) r (trues forbid rs)) i
    || sym (some_row_if (has_effect forbid r.effect) (is_residual r.reported) r (residuals forbid rs)) i)

decide_alike : (ft pt : Bool) → cond (pt && not ft) allow deny ≡ cond ft deny (cond pt allow deny)
decide_alike true true = refl
decide_alike true false = refl
decide_alike false true = refl
decide_alike false false = refl

by_counted : (mode : ErrorHandling) (rows : List Row) → Reports.concrete_decision mode rows
    ≡ cond (some_row (rows_of forbid (counts mode forbid) rows)) deny
    (cond (some_row (rows_of permit (counts mode permit) rows)) allow deny)
unfolding counts
by_counted skip rows = decide_alike (some_row (trues forbid rows)) (some_row (trues permit rows))
by_counted forbid_on_error rows =
    decide_alike (some_row (trues forbid rows) || some_row (residuals forbid rows)) (some_row (trues permit rows))
    ∙ ap (λ b. cond b deny (cond (some_row (trues permit rows)) allow deny)) (sym (some_open rows))

pub concrete_decides_rows : ReportLaws.ConcreteDecidesRows
concrete_decides_rows mode rows =
    by_counted mode rows
    ∙ sym (λ i. cond (some_counted mode forbid rows i) deny (cond (some_counted mode permit rows i) allow deny))

-- ---- without a residual

append_nothing : (xs : List Row) → xs ++ [] ≡ xs
append_nothing [] = refl
append_nothing (x ∷ xs) = ap (λ ys. x ∷ ys) (append_nothing xs)

rest_if : (a b : Bool) (r : Row) (xs : List Row) → cond a (cond b (r ∷ xs) xs) xs ≡ [] → xs ≡ []
rest_if true true r xs h = absurd (cc)
rest_if true false r xs h = h
rest_if false b r xs h = h

first_if : (g : Effect) (b : Bool) (r : Row) (xs ys : List Row)
    → cond (has_effect permit g) (cond b (r ∷ xs) xs) xs ≡ []
    → cond (has_effect forbid g) (cond b (r ∷ ys) ys) ys ≡ [] → b ≡ false
unfolding has_effect
first_if permit true r xs ys h k = absurd (cc)
first_if permit false r xs ys h k = refl
first_if forbid true r xs ys h k = absurd (cc)
first_if forbid false r xs ys h k = refl

none_left : (r : Row) (rs : List Row) → Reports.HaveNoResidual (r ∷ rs) → (is_residual r.reported ≡ false)
    × Reports.HaveNoResidual rs
unfolding rows_of
none_left r rs h = (
  first_if r.effect (is_residual r.reported) r (residuals permit rs) (residuals forbid rs) h.0 h.1,
  (
    rest_if (has_effect permit r.effect) (is_residual r.reported) r (residuals permit rs) h.0,
    rest_if
        (has_effect forbid r.effect) (is_residual r.reported) r (residuals forbid rs) h.1,
  ),
)

open_if : (a : Bool) (o : Reported) (r : Row) (xs ys : List Row) → is_residual o ≡ false → xs ≡ ys
    → cond a (cond (is_open o) (r ∷ xs) xs) xs ≡ cond a (cond (is_true o) (r ∷ ys) ys) ys
unfolding is_open is_true is_residual
open_if a reported_true r xs ys h e = ap (λ zs. cond a (r ∷ zs) zs) e
open_if a (reported_false b) r xs ys h e = ap (λ zs. cond a zs zs) e
open_if a (reported_residual t) r xs ys h e = absurd (cc)

open_is_true : (rows : List Row) → Reports.HaveNoResidual rows → rows_of forbid is_open rows ≡ trues forbid rows
unfolding rows_of
open_is_true [] none = refl
open_is_true (r ∷ rs) none =
    let n = none_left r rs none in
    open_if (has_effect forbid r.effect) r.reported r (rows_of forbid is_open rs) (trues forbid rs) n.0
    (open_is_true rs n.1)

counted_trues : (mode : ErrorHandling) (e : Effect) (rows : List Row) → Reports.HaveNoResidual rows
    → rows_of e (counts mode e) rows ≡ trues e rows
unfolding counts
counted_trues skip e rows none = refl
counted_trues forbid_on_error permit rows none = refl
counted_trues forbid_on_error forbid rows none = open_is_true rows none

module _ (rows : List Row) (none : Reports.HaveNoResidual rows) where
  abbrev chosen : List Row
  chosen = cond (some_row (trues forbid rows)) (trues forbid rows) (trues permit rows)

  must_is : Reports.must_determine rows ≡ chosen
  unfolding some_row
  must_is =
      (λ i. cond (some_row (trues forbid rows) || some_row (none.1 i)) (trues forbid rows) (trues permit rows))
      ∙ ap (λ b. cond b (trues forbid rows) (trues permit rows)) (or-false (some_row (trues forbid rows)))

  may_is : Reports.may_determine rows ≡ chosen
  may_is =
      (λ i. cond (some_row (trues forbid rows)) (trues forbid rows ++ none.1 i)
      (trues permit rows ++ (none.0 i ++ none.1 i)))
      ∙ (λ i. cond (some_row (trues forbid rows)) (append_nothing (trues forbid rows) i)
      (append_nothing (trues permit rows) i))

  no_error : (errors : List (Text × Failure)) → Reports.concrete_errors rows errors ≡ errors
  no_error errors = λ i. map Reports.residual_error (none.1 i) ++ (map Reports.residual_error (none.0 i) ++ errors)

  residual_isn't : (e : Effect) → residuals e rows ≡ [] → some_row (residuals e rows) ≡ true → ⊥
  unfolding some_row
  residual_isn't e h k = let z = sym (ap some_row h) ∙ k in cc

  concrete_chosen : (b : ErrorHandling) → Reports.concrete_decision b rows ≡ Reports.concrete_decision skip rows
  unfolding some_row
  concrete_chosen skip = refl
  concrete_chosen forbid_on_error =
      (λ i. cond (some_row (trues permit rows) && not (some_row (trues forbid rows) || some_row (none.1 i))) allow
      deny)
      ∙ ap (λ b. cond (some_row (trues permit rows) && not b) allow deny) (or-false (some_row (trues forbid rows)))

  reasons_chosen : (b : ErrorHandling) → Reports.concrete_reasons b rows ≡ chosen
  unfolding some_row
  reasons_chosen skip = must_is
  reasons_chosen forbid_on_error =
      (λ i. cond (some_row (trues forbid rows) || some_row (none.1 i)) (trues forbid rows ++ none.1 i)
      (trues permit rows))
      ∙ (λ i. cond (or-false (some_row (trues forbid rows)) i) (append_nothing (trues forbid rows) i)
      (trues permit rows))

  module _ (mode : ErrorHandling) (X : Extensions) (ans : Functions) (w : World) (ps : List Policy)
      (stand : Responses.Stand mode X ans w ps rows) where
    satisfied_is : (e : Effect) → residuals e rows ≡ []
        → some_satisfied e (counted_each mode X ans w ps) ≡ some_row (trues e rows)
    satisfied_is e h =
        same_bools (some_satisfied e (counted_each mode X ans w ps)) (some_row (trues e rows))
        (λ k. by (Bounds.satisfied_open mode X ans w ps rows stand e k))
        (Bounds.true_satisfied mode X ans w ps rows stand e)
      where
        by : (some_row (trues e rows) ≡ true) ⊎ (some_row (residuals e rows) ≡ true) → some_row (trues e rows) ≡ true
        by (inl z) = z
        by (inr z) = absurd (residual_isn't e h z)

    pub decision_is : Reports.concrete_decision mode rows ≡ decision (counted_each mode X ans w ps)
    decision_is =
        concrete_chosen mode
        ∙ decide_alike (some_row (trues forbid rows)) (some_row (trues permit rows))
        ∙ sym (λ i. cond (satisfied_is forbid none.1 i) deny (cond (satisfied_is permit none.0 i) allow deny))

    must_reasons : (t : Text) → has_text t (ids (Reports.must_determine rows))
        ≡ has_text t (reasons (counted_each mode X ans w ps))
    must_reasons t =
        let h = Bounds.reports_hold mode X ans w ps rows stand in
        same_bools (has_text t (ids (Reports.must_determine rows))) (has_text t (reasons (counted_each mode X ans w ps)))
        (h.must_are_reasons t) (λ k. ap (λ xs. has_text t (ids xs)) (must_is ∙ sym may_is) ∙ h.reasons_may t k)

    pub reasons_are : (t : Text) → has_text t (ids (Reports.concrete_reasons mode rows))
        ≡ has_text t (reasons (counted_each mode X ans w ps))
    reasons_are t = ap (λ xs. has_text t (ids xs)) (reasons_chosen mode ∙ sym must_is) ∙ must_reasons t

pub concrete_is_defined : ReportLaws.ConcreteIsDefined
concrete_is_defined mode X ans w ps rows stand none =
    (decision_is rows none mode X ans w ps stand, reasons_are rows none mode X ans w ps stand)

-- ---- a run

verdict_same : (mode : ErrorHandling) (effect : Effect) (d : Responses.Decided)
    → counted_verdict mode effect (Authorizations.result_verdict (Responses.result_of d)) ≡ counted_verdict mode effect
    (reported_verdict mode effect (Responses.counted_report mode effect (Responses.reported_of d)))
unfolding counted_verdict reported_verdict Reports.false_verdict Responses.reported_of Responses.counted_report
    Responses.result_of Authorizations.result_verdict Authorizations.bool_verdict
verdict_same skip effect (Responses.decides true) = refl
verdict_same skip effect (Responses.decides false) = refl
verdict_same skip effect (Responses.errs_with e) = refl
verdict_same skip effect (Responses.leaves t) = refl
verdict_same forbid_on_error permit (Responses.decides true) = refl
verdict_same forbid_on_error permit (Responses.decides false) = refl
verdict_same forbid_on_error permit (Responses.errs_with e) = refl
verdict_same forbid_on_error permit (Responses.leaves t) = refl
verdict_same forbid_on_error forbid (Responses.decides true) = refl
verdict_same forbid_on_error forbid (Responses.decides false) = refl
verdict_same forbid_on_error forbid (Responses.errs_with e) = refl
verdict_same forbid_on_error forbid (Responses.leaves t) = refl

pub residual_same : (mode : ErrorHandling) (effect : Effect) (o : Reported)
    → is_residual (Responses.counted_report mode effect o) ≡ is_residual o
unfolding is_residual Responses.counted_report
residual_same skip effect o = refl
residual_same forbid_on_error permit o = refl
residual_same forbid_on_error forbid reported_true = refl
residual_same forbid_on_error forbid (reported_false true) = refl
residual_same forbid_on_error forbid (reported_false false) = refl
residual_same forbid_on_error forbid (reported_residual t) = refl

errors_same : (id : Text) (later : List (Text × Failure)) (a : Answer)
    → is_residual (Responses.reported_of (Responses.decided a)) ≡ false
    → Responses.with_error id (Responses.error_of (Responses.decided a)) later
    ≡ Responses.with_error id (Authorizations.error_in (Authorizations.evaluated a)) later
unfolding is_residual Responses.reported_of Responses.with_error Responses.error_of Responses.decided
    Responses.decided_bool Responses.result_of Authorizations.error_in
errors_same id later (answers (value v)) h = by (bool_of (abstract_value v))
  where
    by : (o : Option Bool) → Responses.with_error id (Responses.error_of (Responses.decided_bool o v)) later
        ≡ Responses.with_error id
        (Authorizations.error_in (Responses.result_of (Responses.decided_bool o v))) later
    by (Some b) = refl
    by None = refl
errors_same id later (answers (residual t)) h = absurd (cc)
errors_same id later (fails e) h = refl

module _ (mode : ErrorHandling) (calls : StoredCalls) (s : Setting) (levels : ℕ) where
  abbrev counted_rows : List Row → List Judged
  counted_rows rows = counting mode (map (judged_row mode) rows)

  -- the policies are judged so that the verdicts that count are those of the rows
  run_judges : (ps : List Policy) (rows : List Row) (errors : List (Text × Failure))
      → Responses.RunOf mode s calls levels ps rows errors → Reports.HaveNoResidual rows
      → (js : List Judged) × Authorizations.JudgesEach (PolicyRuns s calls levels) ps js errors
      × (counting mode js ≡ counted_rows rows)
  run_judges [] rows errors h none = ([], (refl, h.1), sym (ap counted_rows h.0))
  run_judges (p ∷ ps) rows errors (a, rest, later, g, m, j, e, k) none =
      let n = none_left (Responses.row_of mode p a) rest (subst Reports.HaveNoResidual e none) in
      let ih = run_judges ps rest later j n.1 in
      let left = sym (residual_same mode p.effect (Responses.reported_of (Responses.decided a))) ∙ n.0 in (
        Authorizations.judged_by p (Authorizations.evaluated a) ∷ ih.0,
        (a, ih.0, later, g, ih.1, refl, k ∙ errors_same p.id later a left),
        (λ i. record {
          id = p.id;
          effect = p.effect;
          verdict_of = verdict_same mode p.effect (Responses.decided a) i;
        } ∷ ih.2 i)
            ∙ sym (ap counted_rows e),
      )

  pub run_is_response : (ps : List Policy) (rows : List Row) (errors : List (Text × Failure))
      → Responses.RunOf mode s calls levels ps rows errors → Reports.HaveNoResidual rows
      → Authorizations.IsResponse mode (PolicyRuns s calls levels) ps (Reports.concretized mode rows errors)
  run_is_response ps rows errors h none =
      let z = run_judges ps rows errors h none in (
        z.0,
        subst (Authorizations.JudgesEach (PolicyRuns s calls levels) ps z.0) (sym (no_error rows none errors)) z.1,
        concrete_decides_rows mode rows ∙ ap decision (sym z.2),
        λ t. ap (has_text t) (reason_ids ∙ ap reasons (sym z.2)),
      )
    where
      ids_chosen : (b : Bool) → ids (cond b (trues forbid rows) (trues permit rows))
          ≡ cond b (ids (trues forbid rows)) (ids (trues permit rows))
      ids_chosen true = refl
      ids_chosen false = refl

      some_is : (e : Effect) → some_satisfied e (counted_rows rows) ≡ some_row (trues e rows)
      some_is e = some_counted mode e rows ∙ ap some_row (counted_trues mode e rows none)

      ids_are : (e : Effect) → satisfied_ids e (counted_rows rows) ≡ ids (trues e rows)
      ids_are e = counted_ids mode e rows ∙ ap ids (counted_trues mode e rows none)

      reason_ids : ids (Reports.concrete_reasons mode rows) ≡ reasons (counted_rows rows)
      reason_ids =
          ap ids (reasons_chosen rows none mode) ∙ ids_chosen (some_row (trues forbid rows))
          ∙ sym (λ i. cond (some_is forbid i) (ids_are forbid i) (ids_are permit i))
