-- Wherever the rows stand, a given decision is that of the policies, and their reasons lie between the two bounds.
use Rattle.std.specs.Prelude.{◌≡◌, ◌≢◌, ◌⊎◌, Bool, true, false, cond, not, ◌&&◌, ◌||◌, List, [], ◌∷◌, ◌++◌, Option}
use Rattle.std.specs.Prelude.{Some, None}
use Rattle.std.proofs.Common.{refl, sym, ap, ◌∙◌, subst, inl, inr}
use Rattle.std.proofs.Math.Bool.{and-true}
use Rattle.std.proofs.lemmas.Bool.{false_from_ne_true}
use Rattle.cedar_model.specs.Terms.{Text}
use Rattle.cedar_model.specs.Policies
use Rattle.cedar_model.specs.Policies.{ErrorHandling}
use Rattle.cedar_model.specs.Outcomes.{text_eq, has_text}
use Rattle.cedar_model.specs.World.{World, Extensions, Functions}
use Rattle.cedar_model.specs.Meaning.{meaning}
use Rattle.cedar_model.specs.Policies.{Effect, permit, forbid, Policy, Verdict, satisfied, unsatisfied, erring}
use Rattle.cedar_model.specs.Policies.{verdict, Judged, Decision, allow, deny, is_satisfied_by, some_satisfied}
use Rattle.cedar_model.specs.Policies.{satisfied_ids, decision, reasons}
use Rattle.cedar_model.specs.Responses
use Rattle.cedar_model.specs.Responses.{Reported, reported_true, reported_false, reported_residual, Row}
use Rattle.cedar_model.specs.Chains.{is_true, is_residual, has_effect, rows_of}
use Rattle.cedar_model.specs.Reports
use Rattle.cedar_model.specs.Reports.{some_row, ids, trues, residuals}
use Rattle.cedar_model.specs.laws.Reports as ReportLaws
use Rattle.cedar_model.proofs.Counting
use Rattle.cedar_model.proofs.Standing.{errs_isn't}
use Rattle.cedar_model.proofs.Injections.{some_inj, none_is_not_some, true_is_not_false}
use Rattle.cedar_model.proofs.Decisions.{erring_is_not}

-- ---- a row that stands

satisfied_of_effect : (e g : Effect) → is_satisfied_by e satisfied g ≡ has_effect e g
unfolding is_satisfied_by has_effect
satisfied_of_effect permit permit = refl
satisfied_of_effect permit forbid = refl
satisfied_of_effect forbid permit = refl
satisfied_of_effect forbid forbid = refl

unsatisfied_is_not : (e g : Effect) → is_satisfied_by e unsatisfied g ≡ false
unfolding is_satisfied_by
unsatisfied_is_not permit permit = refl
unsatisfied_is_not permit forbid = refl
unsatisfied_is_not forbid permit = refl
unsatisfied_is_not forbid forbid = refl

-- a satisfied policy has the effect
satisfied_has : (e g : Effect) (v : Verdict) (b c : Bool) → (is_satisfied_by e v g && b) ≡ true → c ≡ true
    → ((has_effect e g && c) && b) ≡ true
satisfied_has e g satisfied b c h k =
    ap (λ z. (has_effect e g && z) && b) k ∙ ap (λ z. z && b) (and-true (has_effect e g)
    ∙ sym (satisfied_of_effect e g)) ∙ h
satisfied_has e g unsatisfied b c h k = absurd (let z = ap (λ x. x && b) (sym (unsatisfied_is_not e g)) ∙ h in cc)
satisfied_has e g erring b c h k = absurd (let z = ap (λ x. x && b) (sym (erring_is_not e g)) ∙ h in cc)

none_false : (a b : Bool) → ((a && false) && b) ≡ true → ⊥
none_false true b h = cc
none_false false b h = cc

module _ (mode : ErrorHandling) (X : Extensions) (ans : Functions) (w : World) (f : Text → Bool) (e : Effect) where
  abbrev V : Policy → Verdict
  V p = Policies.counted_verdict mode p.effect (verdict (meaning X ans w p.slots p.condition))

  true_row : (p : Policy) (o : Reported) (b : Bool) → Responses.StandsAs mode X ans w p o
      → ((has_effect e p.effect && is_true o) && b) ≡ true → (is_satisfied_by e (V p) p.effect && b) ≡ true
  unfolding is_true
  true_row p reported_true b h k =
      ap (λ v. is_satisfied_by e v p.effect && b) h
      ∙ ap (λ z. z && b) (satisfied_of_effect e p.effect ∙ sym (and-true (has_effect e p.effect))) ∙ k
  true_row p (reported_false x) b h k = absurd (none_false (has_effect e p.effect) b k)
  true_row p (reported_residual t) b h k = absurd (none_false (has_effect e p.effect) b k)

  not_satisfied : (g : Effect) (b : Bool) (v : Verdict) → v ≢ satisfied → (is_satisfied_by e v g && b) ≡ true
      → ((has_effect e g && false) && b) ≡ true
  not_satisfied g b satisfied n l = absurd (n refl)
  not_satisfied g b unsatisfied n l = absurd (let z = ap (λ x. x && b) (sym (unsatisfied_is_not e g)) ∙ l in cc)
  not_satisfied g b erring n l = absurd (let z = ap (λ x. x && b) (sym (erring_is_not e g)) ∙ l in cc)

  open_row : (p : Policy) (o : Reported) (b : Bool) → Responses.StandsAs mode X ans w p o
      → (is_satisfied_by e (V p) p.effect && b) ≡ true → ((has_effect e p.effect && Counting.is_open o) && b) ≡ true
  unfolding Counting.is_open
  open_row p reported_true b h k = satisfied_has e p.effect (V p) b true k refl
  open_row p (reported_residual t) b h k = satisfied_has e p.effect (V p) b true k refl
  open_row p (reported_false true) b h k =
      not_satisfied p.effect b (V p) (errs_isn't mode p.effect (verdict (meaning X ans w p.slots p.condition)) h) k
  open_row p (reported_false false) b h k = not_satisfied p.effect b (V p) h k

  true_rows : (ps : List Policy) (rows : List Row) → Responses.StandInOrder mode X ans w ps rows
      → Counting.hit f e is_true rows ≡ true → Counting.meets f e (Policies.counted_each mode X ans w ps) ≡ true
  unfolding Counting.hit Counting.meets
  true_rows [] [] h k = k
  true_rows [] (r ∷ rs) h k = absurd h
  true_rows (p ∷ ps) [] h k = absurd h
  true_rows (p ∷ ps) (r ∷ rs) h k =
      Counting.or_map ((has_effect e r.effect && is_true r.reported) && f r.id) (Counting.hit f e is_true rs) _ _
      (λ z. true_row p r.reported (f p.id) h.2 (subst
      (λ g. ((has_effect e g && is_true r.reported) && f p.id) ≡ true) h.1
      (subst (λ i. ((has_effect e r.effect && is_true r.reported) && f i) ≡ true) h.0 z))) (true_rows ps rs h.3) k

  open_rows : (ps : List Policy) (rows : List Row) → Responses.StandInOrder mode X ans w ps rows
      → Counting.meets f e (Policies.counted_each mode X ans w ps) ≡ true
      → Counting.hit f e Counting.is_open rows ≡ true
  unfolding Counting.hit Counting.meets
  open_rows [] [] h k = k
  open_rows [] (r ∷ rs) h k = absurd h
  open_rows (p ∷ ps) [] h k = absurd h
  open_rows (p ∷ ps) (r ∷ rs) h k =
      Counting.or_map (is_satisfied_by e (V p) p.effect && f p.id)
      (Counting.meets f e (Policies.counted_each mode X ans w ps)) _ _
      (λ z. subst (λ i. ((has_effect e r.effect && Counting.is_open r.reported) && f i) ≡ true) (sym h.0)
      (subst (λ g. ((has_effect e g && Counting.is_open r.reported) && f p.id) ≡ true) (sym h.1)
      (open_row p r.reported (f p.id) h.2 z))) (open_rows ps rs h.3) k

-- ---- what follows from tests alone

module _ (ft fr pt pr : Bool) where
  abbrev given : Option Decision
  given = cond ft (Some deny) (cond (not (pt || pr)) (Some deny) (cond fr None (cond pt (Some allow) None)))

deny_with : (sf sp : Bool) → sf ≡ true → cond sf deny (cond sp allow deny) ≡ deny
deny_with true sp h = refl
deny_with false sp h = absurd (cc)

deny_without : (sf sp : Bool) → sp ≡ false → cond sf deny (cond sp allow deny) ≡ deny
deny_without true sp h = refl
deny_without false true h = absurd (cc)
deny_without false false h = refl

allow_with : (sf sp : Bool) → sf ≡ false → sp ≡ true → cond sf deny (cond sp allow deny) ≡ allow
allow_with true sp h k = absurd (cc)
allow_with false true h k = refl
allow_with false false h k = absurd (cc)

given_decides : (ft fr pt pr sf sp : Bool) → (ft ≡ true → sf ≡ true) → (sf ≡ true → (ft ≡ true) ⊎ (fr ≡ true))
    → (pt ≡ true → sp ≡ true) → (sp ≡ true → (pt ≡ true) ⊎ (pr ≡ true)) → (d : Decision) → given ft fr pt pr ≡ Some d
    → cond sf deny (cond sp allow deny) ≡ d
given_decides true fr pt pr sf sp a b c e d h = deny_with sf sp (a refl) ∙ some_inj h
given_decides false fr false false sf sp a b c e d h =
    deny_without sf sp (false_from_ne_true sp (λ k. by (e k))) ∙ some_inj h
  where
    by : (false ≡ true) ⊎ (false ≡ true) → ⊥
    by (inl k) = cc
    by (inr k) = cc
given_decides false true true pr sf sp a b c e d h = absurd (none_is_not_some h)
given_decides false true false true sf sp a b c e d h = absurd (none_is_not_some h)
given_decides false false true pr sf sp a b c e d h =
    allow_with sf sp (false_from_ne_true sf (λ k. by (b k))) (c refl) ∙ some_inj h
  where
    by : (false ≡ true) ⊎ (false ≡ true) → ⊥
    by (inl k) = cc
    by (inr k) = cc
given_decides false false false true sf sp a b c e d h = absurd (none_is_not_some h)

-- ---- the law

module _ (mode : ErrorHandling) (X : Extensions) (ans : Functions) (w : World) (ps : List Policy) (rows : List Row)
    (stand : Responses.Stand mode X ans w ps rows) where
  abbrev js : List Judged
  js = Policies.counted_each mode X ans w ps

  pub true_meets : (f : Text → Bool) (e : Effect) → Counting.hit f e is_true rows ≡ true → Counting.meets f e js ≡ true
  true_meets f e h =
      true_rows mode X ans w f e ps stand.0 stand.2 (Counting.hit_reordered f e is_true stand.1 ∙ h)

  pub meets_open : (f : Text → Bool) (e : Effect) → Counting.meets f e js ≡ true
      → (Counting.hit f e is_true rows ≡ true) ⊎ (Counting.hit f e is_residual rows ≡ true)
  meets_open f e h =
      Counting.hit_open f e rows (sym (Counting.hit_reordered f e Counting.is_open stand.1)
      ∙ open_rows mode X ans w f e ps stand.0 stand.2 h)

  abbrev some_of : Effect → (Reported → Bool) → Bool
  some_of e such = some_row (rows_of e such rows)

  some_is : (e : Effect) (such : Reported → Bool) → some_of e such ≡ Counting.hit Counting.any e such rows
  some_is e such = Counting.some_row_hits (rows_of e such rows) ∙ Counting.hits_rows Counting.any e such rows

  has_is : (t : Text) (e : Effect) (such : Reported → Bool)
      → has_text t (ids (rows_of e such rows)) ≡ Counting.hit (text_eq t) e such rows
  has_is t e such = Counting.has_text_hits t (rows_of e such rows) ∙ Counting.hits_rows (text_eq t) e such rows

  pub true_satisfied : (e : Effect) → some_of e is_true ≡ true → some_satisfied e js ≡ true
  true_satisfied e h =
      Counting.some_satisfied_meets e js ∙ true_meets Counting.any e (sym (some_is e is_true) ∙ h)

  pub satisfied_open : (e : Effect) → some_satisfied e js ≡ true
      → (some_of e is_true ≡ true) ⊎ (some_of e is_residual ≡ true)
  satisfied_open e h = by (meets_open Counting.any e (sym (Counting.some_satisfied_meets e js) ∙ h))
    where
      by : (Counting.hit Counting.any e is_true rows ≡ true) ⊎ (Counting.hit Counting.any e is_residual rows ≡ true)
          → (some_of e is_true ≡ true) ⊎ (some_of e is_residual ≡ true)
      by (inl k) = inl (some_is e is_true ∙ k)
      by (inr k) = inr (some_is e is_residual ∙ k)

  decision_holds : (d : Decision) → Reports.given_decision rows ≡ Some d → decision js ≡ d
  decision_holds d h =
      given_decides (some_of forbid is_true) (some_of forbid is_residual) (some_of permit is_true)
      (some_of permit is_residual) (some_satisfied forbid js) (some_satisfied permit js) (true_satisfied forbid)
      (satisfied_open forbid) (true_satisfied permit) (satisfied_open permit) d h

  -- ---- bounds

  true_text : (t : Text) (e : Effect) → has_text t (ids (trues e rows)) ≡ true → has_text t (satisfied_ids e js) ≡ true
  true_text t e h = Counting.has_text_meets t e js ∙ true_meets (text_eq t) e (sym (has_is t e is_true) ∙ h)

  some_of_text : (t : Text) (e : Effect) (such : Reported → Bool) → has_text t (ids (rows_of e such rows)) ≡ true
      → some_of e such ≡ true
  some_of_text t e such h =
      some_is e such ∙ Counting.hit_any (text_eq t) e such rows (sym (has_is t e such) ∙ h)

  must_by : (t : Text) (ft fr sf : Bool) → (sf ≡ true → (ft ≡ true) ⊎ (fr ≡ true))
      → (has_text t (ids (trues forbid rows)) ≡ true → sf ≡ true)
      → has_text t (ids (cond (ft || fr) (trues forbid rows) (trues permit rows))) ≡ true
      → has_text t (cond sf (satisfied_ids forbid js) (satisfied_ids permit js)) ≡ true
  must_by t true fr true a b h = true_text t forbid h
  must_by t true fr false a b h = absurd (let z = b h in cc)
  must_by t false true true a b h = true_text t forbid h
  must_by t false true false a b h = absurd (let z = b h in cc)
  must_by t false false true a b h = absurd (by (a refl))
    where
      by : (false ≡ true) ⊎ (false ≡ true) → ⊥
      by (inl k) = cc
      by (inr k) = cc
  must_by t false false false a b h = true_text t permit h

  must_are_reasons : ReportLaws.Within (ids (Reports.must_determine rows)) (reasons js)
  must_are_reasons t h =
      must_by t (some_of forbid is_true) (some_of forbid is_residual) (some_satisfied forbid js)
      (satisfied_open forbid) (λ k. true_satisfied forbid (some_of_text t forbid is_true k)) h

  open_text : (t : Text) (e : Effect) → has_text t (satisfied_ids e js) ≡ true
      → (has_text t (ids (trues e rows)) ≡ true) ⊎ (has_text t (ids (residuals e rows)) ≡ true)
  open_text t e h = by (meets_open (text_eq t) e (sym (Counting.has_text_meets t e js) ∙ h))
    where
      by : (Counting.hit (text_eq t) e is_true rows ≡ true) ⊎ (Counting.hit (text_eq t) e is_residual rows ≡ true)
          → (has_text t (ids (trues e rows)) ≡ true) ⊎ (has_text t (ids (residuals e rows)) ≡ true)
      by (inl k) = inl (has_is t e is_true ∙ k)
      by (inr k) = inr (has_is t e is_residual ∙ k)

  may_forbids : (t : Text) (ft : Bool) → (has_text t (ids (trues forbid rows)) ≡ true → ft ≡ true)
      → (has_text t (ids (trues forbid rows)) ≡ true) ⊎ (has_text t (ids (residuals forbid rows)) ≡ true)
      → has_text t (ids (cond ft (trues forbid rows ++ residuals forbid rows)
      (trues permit rows ++ (residuals permit rows ++ residuals forbid rows)))) ≡ true
  may_forbids t true a h = Counting.has_append t (trues forbid rows) (residuals forbid rows) h
  may_forbids t false a (inl h) = absurd (let z = a h in cc)
  may_forbids t false a (inr h) =
      Counting.has_append t (trues permit rows) (residuals permit rows ++ residuals forbid rows)
      (inr (Counting.has_append t (residuals permit rows) (residuals forbid rows) (inr h)))

  may_permits : (t : Text) (ft : Bool) → ft ≡ false
      → (has_text t (ids (trues permit rows)) ≡ true) ⊎ (has_text t (ids (residuals permit rows)) ≡ true)
      → has_text t (ids (cond ft (trues forbid rows ++ residuals forbid rows)
      (trues permit rows ++ (residuals permit rows ++ residuals forbid rows)))) ≡ true
  may_permits t true a h = absurd (cc)
  may_permits t false a (inl h) =
      Counting.has_append t (trues permit rows) (residuals permit rows ++ residuals forbid rows) (inl h)
  may_permits t false a (inr h) =
      Counting.has_append t (trues permit rows) (residuals permit rows ++ residuals forbid rows)
      (inr (Counting.has_append t (residuals permit rows) (residuals forbid rows) (inl h)))

  reasons_may : ReportLaws.Within (reasons js) (ids (Reports.may_determine rows))
  reasons_may t h = by (some_satisfied forbid js) refl h
    where
      by : (sf : Bool) → some_satisfied forbid js ≡ sf
          → has_text t (cond sf (satisfied_ids forbid js) (satisfied_ids permit js)) ≡ true
          → has_text t (ids (Reports.may_determine rows)) ≡ true
      by true e k = may_forbids t (some_of forbid is_true) (some_of_text t forbid is_true) (open_text t forbid k)
      by false e k =
          may_permits t (some_of forbid is_true) (false_from_ne_true (some_of forbid is_true)
          (λ z. true_is_not_false (true_satisfied forbid z) e)) (open_text t permit k)

  pub reports_hold : ReportLaws.ReportsHold mode X ans w ps rows
  reports_hold = record {
    decision_holds = decision_holds;
    must_are_reasons = must_are_reasons;
    reasons_may = reasons_may;
  }
