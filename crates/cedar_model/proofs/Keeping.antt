-- A step takes nothing back: a true row stays true, and a false one false, where no recursion limit is recorded.
use Rattle.std.specs.Prelude.{◌≡◌, ◌⊎◌, ℕ, Bool, true, false, cond, not, ◌&&◌, ◌||◌, List, [], ◌∷◌, ◌++◌, map, Option}
use Rattle.std.specs.Prelude.{Some, None}
use Rattle.std.proofs.Common.{refl, sym, ap, ◌∙◌, subst, inl, inr}
use Rattle.std.proofs.lemmas.Bool.{or_cases, false_from_ne_true}
use Rattle.cedar_model.specs.Terms.{Text, Term, bool_literal, literal, both}
use Rattle.cedar_model.specs.Outcomes.{bool_of, text_eq, has_text}
use Rattle.cedar_model.specs.Failures.{Failure, failure_kind, Answer, answers_bool, limit}
use Rattle.cedar_model.specs.Settings.{Setting, Store}
use Rattle.cedar_model.specs.Rules
use Rattle.cedar_model.specs.Policies.{Effect, permit, forbid, Decision, allow, deny, ErrorHandling, skip}
use Rattle.cedar_model.specs.Policies.{forbid_on_error}
use Rattle.cedar_model.specs.Responses
use Rattle.cedar_model.specs.Responses.{Reported, reported_true, reported_false, reported_residual, Row}
use Rattle.cedar_model.specs.Agreement.{no_slots}
use Rattle.cedar_model.specs.Chains
use Rattle.cedar_model.specs.Chains.{Mapping, Response, is_true, is_false, is_residual, has_effect, rows_of}
use Rattle.cedar_model.specs.Authorizations.{HaveNoLimit}
use Rattle.cedar_model.specs.Reports
use Rattle.cedar_model.specs.Reports.{some_row, ids, trues, residuals}
use Rattle.cedar_model.specs.laws.Reports.{Within}
use Rattle.cedar_model.specs.laws.Chains as ChainLaws
use Rattle.cedar_model.proofs.Recorded
use Rattle.cedar_model.proofs.Carried
use Rattle.cedar_model.proofs.Chained.{sorted_is}
use Rattle.cedar_model.proofs.Stepping.{taken}
use Rattle.cedar_model.proofs.Counting
use Rattle.cedar_model.proofs.Configured.{configured_by}
use Rattle.cedar_model.proofs.Injections.{none_is_not_some, false_is_not_true, true_is_not_false}

-- ---- a row

abbrev KeepsReport : Reported → Reported → Type 0
KeepsReport o o' = (is_true o ≡ true → is_true o' ≡ true) × (is_false o ≡ true → is_false o' ≡ true)

limit_is_recorded : Recorded.IsRecordable (Responses.error_of (Responses.decided limit)) → ⊥
unfolding Responses.error_of Responses.decided failure_kind
limit_is_recorded h = h.0 refl

bool_of_answer : (b : Bool) (a : Answer) → Carried.IsBoolOrLimit b a
    → Recorded.IsRecordable (Responses.error_of (Responses.decided a))
    → a ≡ answers_bool b
bool_of_answer b a (inl e) h = absurd (limit_is_recorded
    (subst (λ z. Recorded.IsRecordable (Responses.error_of (Responses.decided z))) e h))
bool_of_answer b a (inr e) h = e

true_is_true : (mode : ErrorHandling) (e : Effect) → is_true
    (Responses.counted_report mode e (Responses.reported_of (Responses.decided (answers_bool true)))) ≡ true
unfolding is_true Responses.reported_of Responses.decided Responses.decided_bool Responses.counted_report bool_of
true_is_true skip e = refl
true_is_true forbid_on_error permit = refl
true_is_true forbid_on_error forbid = refl

false_is_false : (mode : ErrorHandling) (e : Effect)
    → is_false (Responses.counted_report mode e (Responses.reported_of (Responses.decided (answers_bool false)))) ≡ true
unfolding is_false Responses.reported_of Responses.decided Responses.decided_bool Responses.counted_report bool_of
false_is_false skip e = refl
false_is_false forbid_on_error permit = refl
false_is_false forbid_on_error forbid = refl

module _ (calls : Rules.StoredCalls) (s : Setting) (levels : ℕ) where
  abbrev Carries : Term → Answer → Type 0
  Carries c a =
      Rules.Runs s calls levels (both (both (both Responses.truth Responses.truth) Responses.truth) c) a

  always : (b : Bool) (a : Answer) → Carries (literal (bool_literal b)) a
      → Recorded.IsRecordable (Responses.error_of (Responses.decided a)) → a ≡ answers_bool b
  always b a g h =
      bool_of_answer b a (Carried.clause_always s calls b (literal (bool_literal b))
      (Carried.literal_always s calls b) levels a g) h

  keeps_report : (mode : ErrorHandling) (e : Effect) (o : Reported) (a : Answer) → Carries (Responses.clause_of o) a
      → Recorded.IsRecordable (Responses.error_of (Responses.decided a))
      → KeepsReport o (Responses.counted_report mode e (Responses.reported_of (Responses.decided a)))
  unfolding Responses.clause_of is_true is_false
  keeps_report mode e reported_true a g h = (
    λ k. ap (λ z. is_true (Responses.counted_report mode e (Responses.reported_of (Responses.decided z))))
        (always true a g h)
        ∙ true_is_true mode e,
    λ k. absurd (false_is_not_true k),
  )
  keeps_report mode e (reported_false x) a g h = (
    λ k. absurd (false_is_not_true k),
    λ k. ap (λ z. is_false
        (Responses.counted_report mode e (Responses.reported_of (Responses.decided z)))) (always false a g h)
        ∙ false_is_false mode e,
  )
  keeps_report mode e (reported_residual t) a g h = (λ k. absurd (false_is_not_true k), λ k. absurd (false_is_not_true k))

-- ---- rows in the order of the run

abbrev pub AllKeep : List Row → List Row → Type 0
AllKeep [] [] = Unit {0}
AllKeep [] (r ∷ rs) = ⊥
AllKeep (q ∷ qs) [] = ⊥
AllKeep (q ∷ qs) (r ∷ rs) =
    (q.id ≡ r.id) × (q.effect ≡ r.effect) × KeepsReport q.reported r.reported × AllKeep qs rs

run_keeps : (mode : ErrorHandling) (s : Setting) (calls : Rules.StoredCalls) (levels : ℕ) (qs rows : List Row)
    (errors : List (Text × Failure)) → HaveNoLimit errors
    → Responses.RunOf mode s calls levels (map Responses.carried qs) rows errors → AllKeep qs rows
run_keeps mode s calls levels [] rows errors none h = subst (AllKeep []) (sym h.0) tt
run_keeps mode s calls levels (q ∷ qs) rows errors none (a, rest, later, g, m, j, e, k) =
    let z = Recorded.unless_memory a q.id later m (subst HaveNoLimit k none) in
    subst (AllKeep (q ∷ qs)) (sym e) (
      refl,
      refl,
      keeps_report calls (Responses.with_slots s no_slots) levels mode q.effect q.reported a g z.0,
      run_keeps mode s calls levels qs rest later z.1 j,
    )

-- ---- tests on the rows

and_imp : (a b b' c : Bool) → (b ≡ true → b' ≡ true) → ((a && b) && c) ≡ true → ((a && b') && c) ≡ true
and_imp true true b' c f h = ap (λ z. z && c) (f refl) ∙ h
and_imp true false b' c f h = absurd (false_is_not_true h)
and_imp false b b' c f h = absurd (false_is_not_true h)

module _ (f : Text → Bool) (e : Effect) where
  forward : (such such' : Reported → Bool) → ((o o' : Reported) → KeepsReport o o' → such o ≡ true → such' o' ≡ true)
      → (qs rs : List Row) → AllKeep qs rs → Counting.hit f e such qs ≡ true → Counting.hit f e such' rs ≡ true
  unfolding Counting.hit
  forward such such' k [] [] h i = i
  forward such such' k [] (r ∷ rs) h i = absurd h
  forward such such' k (q ∷ qs) [] h i = absurd h
  forward such such' k (q ∷ qs) (r ∷ rs) h i =
      Counting.or_map ((has_effect e q.effect && such q.reported) && f q.id) (Counting.hit f e such qs) _ _
      (λ z. subst (λ j. ((has_effect e r.effect && such' r.reported) && f j) ≡ true) h.0
      (subst (λ g. ((has_effect e g && such' r.reported) && f q.id) ≡ true) h.1
      (and_imp (has_effect e q.effect) (such q.reported) (such' r.reported) (f q.id)
      (k q.reported r.reported h.2) z))) (forward such such' k qs rs h.3) i

  backward : (such such' : Reported → Bool) → ((o o' : Reported) → KeepsReport o o' → such' o' ≡ true → such o ≡ true)
      → (qs rs : List Row) → AllKeep qs rs → Counting.hit f e such' rs ≡ true → Counting.hit f e such qs ≡ true
  unfolding Counting.hit
  backward such such' k [] [] h i = i
  backward such such' k [] (r ∷ rs) h i = absurd h
  backward such such' k (q ∷ qs) [] h i = absurd h
  backward such such' k (q ∷ qs) (r ∷ rs) h i =
      Counting.or_map ((has_effect e r.effect && such' r.reported) && f r.id) (Counting.hit f e such' rs) _ _
      (λ z. subst (λ j. ((has_effect e q.effect && such q.reported) && f j) ≡ true) (sym h.0)
      (subst (λ g. ((has_effect e g && such q.reported) && f r.id) ≡ true) (sym h.1)
      (and_imp (has_effect e r.effect) (such' r.reported) (such q.reported) (f r.id)
      (k q.reported r.reported h.2) z))) (backward such such' k qs rs h.3) i

-- an open row was open
open_was : (o o' : Reported) → KeepsReport o o' → Counting.is_open o' ≡ true → Counting.is_open o ≡ true
unfolding Counting.is_open is_true is_false
open_was reported_true o' h k = refl
open_was (reported_residual t) o' h k = refl
open_was (reported_false e) reported_true h k = absurd (false_is_not_true (h.1 refl))
open_was (reported_false e) (reported_false e') h k = absurd (false_is_not_true k)
open_was (reported_false e) (reported_residual t) h k = absurd (false_is_not_true (h.1 refl))

-- a residual row was residual
residual_was : (o o' : Reported) → KeepsReport o o' → is_residual o' ≡ true → is_residual o ≡ true
unfolding is_true is_false is_residual
residual_was (reported_residual t) o' h k = refl
residual_was reported_true reported_true h k = absurd (false_is_not_true k)
residual_was reported_true (reported_false e) h k = absurd (false_is_not_true k)
residual_was reported_true (reported_residual t) h k = absurd (false_is_not_true (h.0 refl))
residual_was (reported_false e) reported_true h k = absurd (false_is_not_true k)
residual_was (reported_false e) (reported_false e') h k = absurd (false_is_not_true k)
residual_was (reported_false e) (reported_residual t) h k = absurd (false_is_not_true (h.1 refl))

true_is_open : (o : Reported) → is_true o ≡ true → Counting.is_open o ≡ true
unfolding is_true Counting.is_open
true_is_open reported_true k = refl
true_is_open (reported_false e) k = k
true_is_open (reported_residual t) k = refl

-- true or residual rows, from true ones
open_of_true : (f : Text → Bool) (e : Effect) (rs : List Row) → Counting.hit f e is_true rs ≡ true
    → Counting.hit f e Counting.is_open rs ≡ true
unfolding Counting.hit
open_of_true f e [] h = h
open_of_true f e (r ∷ rs) h =
    Counting.or_map ((has_effect e r.effect && is_true r.reported) && f r.id) (Counting.hit f e is_true rs) _ _
    (and_imp (has_effect e r.effect) (is_true r.reported) (Counting.is_open r.reported) (f r.id)
    (true_is_open r.reported)) (open_of_true f e rs) h

-- ---- what follows from tests alone

abbrev given : Bool → Bool → Bool → Bool → Option Decision
given ft fr pt pr = cond ft (Some deny) (cond (not (pt || pr)) (Some deny) (cond fr None (cond pt (Some allow) None)))

neither : (false ≡ true) ⊎ (false ≡ true) → ⊥
neither (inl k) = cc
neither (inr k) = cc

denied : (b : Bool) → cond b (Some deny) (Some deny) ≡ Some deny
denied true = refl
denied false = refl

decision_stays : (ft fr pt pr ft' fr' pt' pr' : Bool) → (ft ≡ true → ft' ≡ true) → (pt ≡ true → pt' ≡ true)
    → (ft' ≡ true → (ft ≡ true) ⊎ (fr ≡ true)) → (pt' ≡ true → (pt ≡ true) ⊎ (pr ≡ true)) → (fr' ≡ true → fr ≡ true)
    → (pr' ≡ true → pr ≡ true) → (d : Decision) → given ft fr pt pr ≡ Some d → given ft' fr' pt' pr' ≡ Some d
decision_stays true fr pt pr ft' fr' pt' pr' a b c e g i d h =
    (λ j. cond (a refl j) (Some deny) (cond (not (pt' || pr')) (Some deny)
    (cond fr' None (cond pt' (Some allow) None)))) ∙ h
decision_stays false fr false false ft' fr' pt' pr' a b c e g i d h =
    let np : pt' ≡ false = false_from_ne_true pt' (λ k. neither (e k)) in
    let nr : pr' ≡ false = false_from_ne_true pr' (λ k. false_is_not_true (i k)) in
    (λ j. cond ft' (Some deny) (cond (not (np j || nr j)) (Some deny) (cond fr' None (cond pt' (Some allow) None))))
    ∙ denied ft'
    ∙ h
decision_stays false true true pr ft' fr' pt' pr' a b c e g i d h = absurd (none_is_not_some h)
decision_stays false true false true ft' fr' pt' pr' a b c e g i d h = absurd (none_is_not_some h)
decision_stays false false true pr ft' fr' pt' pr' a b c e g i d h =
    let nf : ft' ≡ false = false_from_ne_true ft' (λ k. neither (c k)) in
    let nr : fr' ≡ false = false_from_ne_true fr' (λ k. false_is_not_true (g k)) in
    (λ j. cond (nf j) (Some deny) (cond (not (b refl j || pr')) (Some deny)
    (cond (nr j) None (cond (b refl j) (Some allow) None)))) ∙ h
decision_stays false false false true ft' fr' pt' pr' a b c e g i d h = absurd (none_is_not_some h)

-- ---- lists of rows

some_is : (e : Effect) (such : Reported → Bool) (rows : List Row)
    → some_row (rows_of e such rows) ≡ Counting.hit Counting.any e such rows
some_is e such rows = Counting.some_row_hits (rows_of e such rows) ∙ Counting.hits_rows Counting.any e such rows

has_is : (t : Text) (e : Effect) (such : Reported → Bool) (rows : List Row)
    → has_text t (ids (rows_of e such rows)) ≡ Counting.hit (text_eq t) e such rows
has_is t e such rows = Counting.has_text_hits t (rows_of e such rows) ∙ Counting.hits_rows (text_eq t) e such rows

some_of_text : (t : Text) (e : Effect) (such : Reported → Bool) (rows : List Row)
    → has_text t (ids (rows_of e such rows)) ≡ true → some_row (rows_of e such rows) ≡ true
some_of_text t e such rows h =
    some_is e such rows ∙ Counting.hit_any (text_eq t) e such rows (sym (has_is t e such rows) ∙ h)

has_split : (t : Text) (xs ys : List Row) → has_text t (ids (xs ++ ys)) ≡ true
    → (has_text t (ids xs) ≡ true) ⊎ (has_text t (ids ys) ≡ true)
has_split t xs ys h =
    by (or_cases (Counting.hits (text_eq t) xs) (Counting.hits (text_eq t) ys)
    (sym (Counting.has_text_hits t (xs ++ ys) ∙ Counting.hits_append (text_eq t) xs ys) ∙ h))
  where
    by : (Counting.hits (text_eq t) xs ≡ true) ⊎ (Counting.hits (text_eq t) ys ≡ true)
        → (has_text t (ids xs) ≡ true) ⊎ (has_text t (ids ys) ≡ true)
    by (inl k) = inl (Counting.has_text_hits t xs ∙ k)
    by (inr k) = inr (Counting.has_text_hits t ys ∙ k)

-- ---- old and new rows

module _ (old new : List Row) (kept : AllKeep (Chains.rows_by permit old ++ Chains.rows_by forbid old) new) where
  abbrev carried_rows : List Row
  carried_rows = Chains.rows_by permit old ++ Chains.rows_by forbid old

  old_is : (f : Text → Bool) (e : Effect) (such : Reported → Bool)
      → Counting.hit f e such old ≡ Counting.hit f e such carried_rows
  old_is f e such = Counting.hit_reordered f e such (sorted_is old)

  true_stays : (f : Text → Bool) (e : Effect) → Counting.hit f e is_true old ≡ true
      → Counting.hit f e is_true new ≡ true
  true_stays f e h =
      forward f e is_true is_true (λ o o' k. k.0) carried_rows new kept (sym (old_is f e is_true) ∙ h)

  true_was_open : (f : Text → Bool) (e : Effect) → Counting.hit f e is_true new ≡ true
      → (Counting.hit f e is_true old ≡ true) ⊎ (Counting.hit f e is_residual old ≡ true)
  true_was_open f e h =
      Counting.hit_open f e old (old_is f e Counting.is_open
      ∙ backward f e Counting.is_open Counting.is_open open_was carried_rows new kept (open_of_true f e new h))

  residual_was_there : (f : Text → Bool) (e : Effect) → Counting.hit f e is_residual new ≡ true
      → Counting.hit f e is_residual old ≡ true
  residual_was_there f e h =
      old_is f e is_residual ∙ backward f e is_residual is_residual residual_was carried_rows new kept h

  -- the same of some row
  some_true_stays : (e : Effect) → some_row (trues e old) ≡ true → some_row (trues e new) ≡ true
  some_true_stays e h = some_is e is_true new ∙ true_stays Counting.any e (sym (some_is e is_true old) ∙ h)

  some_true_was_open : (e : Effect) → some_row (trues e new) ≡ true
      → (some_row (trues e old) ≡ true) ⊎ (some_row (residuals e old) ≡ true)
  some_true_was_open e h = by (true_was_open Counting.any e (sym (some_is e is_true new) ∙ h))
    where
      by : (Counting.hit Counting.any e is_true old ≡ true) ⊎ (Counting.hit Counting.any e is_residual old ≡ true)
          → (some_row (trues e old) ≡ true) ⊎ (some_row (residuals e old) ≡ true)
      by (inl k) = inl (some_is e is_true old ∙ k)
      by (inr k) = inr (some_is e is_residual old ∙ k)

  some_residual_was : (e : Effect) → some_row (residuals e new) ≡ true → some_row (residuals e old) ≡ true
  some_residual_was e h =
      some_is e is_residual old ∙ residual_was_there Counting.any e (sym (some_is e is_residual new) ∙ h)

  -- and of an id
  text_stays : (t : Text) (e : Effect) → has_text t (ids (trues e old)) ≡ true → has_text t (ids (trues e new)) ≡ true
  text_stays t e h = has_is t e is_true new ∙ true_stays (text_eq t) e (sym (has_is t e is_true old) ∙ h)

  text_was_open : (t : Text) (e : Effect) → has_text t (ids (trues e new)) ≡ true
      → (has_text t (ids (trues e old)) ≡ true) ⊎ (has_text t (ids (residuals e old)) ≡ true)
  text_was_open t e h = by (true_was_open (text_eq t) e (sym (has_is t e is_true new) ∙ h))
    where
      by : (Counting.hit (text_eq t) e is_true old ≡ true) ⊎ (Counting.hit (text_eq t) e is_residual old ≡ true)
          → (has_text t (ids (trues e old)) ≡ true) ⊎ (has_text t (ids (residuals e old)) ≡ true)
      by (inl k) = inl (has_is t e is_true old ∙ k)
      by (inr k) = inr (has_is t e is_residual old ∙ k)

  text_was_residual : (t : Text) (e : Effect) → has_text t (ids (residuals e new)) ≡ true
      → has_text t (ids (residuals e old)) ≡ true
  text_was_residual t e h =
      has_is t e is_residual old ∙ residual_was_there (text_eq t) e (sym (has_is t e is_residual new) ∙ h)

  -- ---- the bounds

  must_by : (t : Text) (ft fr ft' fr' : Bool) → (has_text t (ids (trues forbid old)) ≡ true → ft' ≡ true)
      → (ft' ≡ true → (ft ≡ true) ⊎ (fr ≡ true)) → (fr' ≡ true → fr ≡ true)
      → has_text t (ids (cond (ft || fr) (trues forbid old) (trues permit old))) ≡ true
      → has_text t (ids (cond (ft' || fr') (trues forbid new) (trues permit new))) ≡ true
  must_by t true fr true fr' a b c h = text_stays t forbid h
  must_by t true fr false fr' a b c h = absurd (false_is_not_true (a h))
  must_by t false true true fr' a b c h = text_stays t forbid h
  must_by t false true false fr' a b c h = absurd (false_is_not_true (a h))
  must_by t false false true fr' a b c h = absurd (neither (b refl))
  must_by t false false false true a b c h = absurd (false_is_not_true (c refl))
  must_by t false false false false a b c h = text_stays t permit h

  must_stays : Within (ids (Reports.must_determine old)) (ids (Reports.must_determine new))
  must_stays t h =
      must_by t (some_row (trues forbid old)) (some_row (residuals forbid old)) (some_row (trues forbid new))
      (some_row (residuals forbid new)) (λ k. some_of_text t forbid is_true new (text_stays t forbid k))
      (some_true_was_open forbid) (some_residual_was forbid) h

  abbrev may : Bool → List Row → List Row
  may ft rows =
      cond ft (trues forbid rows ++ residuals forbid rows)
      (trues permit rows ++ (residuals permit rows ++ residuals forbid rows))

  may_forbids : (t : Text) (ft : Bool) → (has_text t (ids (trues forbid old)) ≡ true → ft ≡ true)
      → (has_text t (ids (trues forbid old)) ≡ true) ⊎ (has_text t (ids (residuals forbid old)) ≡ true)
      → has_text t (ids (may ft old)) ≡ true
  may_forbids t true a h = Counting.has_append t (trues forbid old) (residuals forbid old) h
  may_forbids t false a (inl h) = absurd (false_is_not_true (a h))
  may_forbids t false a (inr h) =
      Counting.has_append t (trues permit old) (residuals permit old ++ residuals forbid old)
      (inr (Counting.has_append t (residuals permit old) (residuals forbid old) (inr h)))

  may_permits : (t : Text) (ft : Bool) → ft ≡ false
      → (has_text t (ids (trues permit old)) ≡ true) ⊎ (has_text t (ids (residuals permit old)) ≡ true)
      → has_text t (ids (may ft old)) ≡ true
  may_permits t true a h = absurd (false_is_not_true (sym a))
  may_permits t false a (inl h) = Counting.has_append t (trues permit old) (residuals permit old ++ residuals forbid old) (inl h)
  may_permits t false a (inr h) =
      Counting.has_append t (trues permit old) (residuals permit old ++ residuals forbid old)
      (inr (Counting.has_append t (residuals permit old) (residuals forbid old) (inl h)))

  abbrev ft : Bool
  ft = some_row (trues forbid old)

  abbrev of_forbids : (t : Text) → (has_text t (ids (trues forbid old)) ≡ true)
      ⊎ (has_text t (ids (residuals forbid old)) ≡ true) → has_text t (ids (may ft old)) ≡ true
  of_forbids t h = may_forbids t ft (some_of_text t forbid is_true old) h

  may_by : (t : Text) (b : Bool) → some_row (trues forbid new) ≡ b → has_text t (ids (may b new)) ≡ true
      → has_text t (ids (may ft old)) ≡ true
  may_by t true e h = by (has_split t (trues forbid new) (residuals forbid new) h)
    where
      by : (has_text t (ids (trues forbid new)) ≡ true) ⊎ (has_text t (ids (residuals forbid new)) ≡ true)
          → has_text t (ids (may ft old)) ≡ true
      by (inl k) = of_forbids t (text_was_open t forbid k)
      by (inr k) = of_forbids t (inr (text_was_residual t forbid k))
  may_by t false e h = by (has_split t (trues permit new) (residuals permit new ++ residuals forbid new) h)
    where
      no_forbid : ft ≡ false
      no_forbid = false_from_ne_true ft (λ k. true_is_not_false (some_true_stays forbid k) e)

      by_residual : (has_text t (ids (residuals permit new)) ≡ true)
          ⊎ (has_text t (ids (residuals forbid new)) ≡ true) → has_text t (ids (may ft old)) ≡ true
      by_residual (inl k) = may_permits t ft no_forbid (inr (text_was_residual t permit k))
      by_residual (inr k) = of_forbids t (inr (text_was_residual t forbid k))

      by : (has_text t (ids (trues permit new)) ≡ true)
          ⊎ (has_text t (ids (residuals permit new ++ residuals forbid new)) ≡ true)
          → has_text t (ids (may ft old)) ≡ true
      by (inl k) = may_permits t ft no_forbid (text_was_open t permit k)
      by (inr k) = by_residual (has_split t (residuals permit new) (residuals forbid new) k)

  may_stays : Within (ids (Reports.may_determine new)) (ids (Reports.may_determine old))
  may_stays t h = may_by t (some_row (trues forbid new)) refl h

  decision_is_kept : (d : Decision) → Reports.given_decision old ≡ Some d → Reports.given_decision new ≡ Some d
  decision_is_kept d h =
      decision_stays ft (some_row (residuals forbid old)) (some_row (trues permit old))
      (some_row (residuals permit old)) (some_row (trues forbid new)) (some_row (residuals forbid new))
      (some_row (trues permit new)) (some_row (residuals permit new)) (some_true_stays forbid)
      (some_true_stays permit) (some_true_was_open forbid) (some_true_was_open permit) (some_residual_was forbid)
      (some_residual_was permit) d h

pub nothing_taken_back : (calls : Rules.StoredCalls) (mode : ErrorHandling) (s : Setting) (levels : ℕ) (m : Mapping)
    (store : Store)
    (old new : Response) → Chains.StepsTo (configured_by calls mode s levels) m store old new → HaveNoLimit new.errors
    → ChainLaws.KeepsWhatIsGiven old new
nothing_taken_back calls mode s levels m store old new h none =
    let t = taken mode s calls levels m store old new h in
    let k = run_keeps mode (Chains.at_step s.extensions s.resolution new.request store m) calls levels
    (Chains.rows_by permit old.rows ++ Chains.rows_by forbid old.rows) new.rows new.errors none t.runs in
    record {
      decision_stays = decision_is_kept old.rows new.rows k;
      must_stays = must_stays old.rows new.rows k;
      may_stays = may_stays old.rows new.rows k;
    }
