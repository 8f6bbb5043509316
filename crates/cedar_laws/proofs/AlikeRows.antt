-- What alike rows report, and what they are made concrete as.
use Rattle.std.specs.Prelude.{◌≡◌, Bool, true, false, cond, not, ◌&&◌, ◌||◌, List, [], ◌∷◌, ◌++◌, map, Option, Some, None}
use Rattle.std.proofs.Common.{refl, sym, ap, ◌∙◌, subst, true≢false}
use Rattle.cedar_model.specs.Terms.{Text}
use Rattle.cedar_model.specs.Outcomes.{has_text}
use Rattle.cedar_model.specs.Failures.{Failure, FailureKind, of_residual, failure_kind}
use Rattle.cedar_model.specs.Policies.{Effect, permit, forbid, Decision, allow, deny, ErrorHandling, skip, forbid_on_error}
use Rattle.cedar_model.specs.Responses.{Reported, reported_true, reported_false, reported_residual, Row}
use Rattle.cedar_model.specs.Chains.{is_true, is_false, is_residual, has_effect, rows_of, rows_by}
use Rattle.cedar_model.specs.Authorizations.{failure_kinds}
use Rattle.cedar_model.specs.Reports.{some_row, ids, trues, falses, residuals, given_decision, must_determine, may_determine}
use Rattle.cedar_model.specs.Reports.{concrete_decision, concrete_reasons, residual_error, concrete_errors, concretized, HaveNoResidual}
use Rattle.cedar_laws.specs.AlikeRuns.{erased_report, erased_row, AreAlikeRows, AreAlikeRuns, AreAlikeResponses, ReportTheSame}

-- ---- rows by effect and report are taken out of alike rows alike

-- a test that doesn't look into residuals
abbrev IsOfReports : (Reported → Bool) → Type 0
IsOfReports such = (o : Reported) → such (erased_report o) ≡ such o

true_of_reports : IsOfReports is_true
unfolding is_true
true_of_reports reported_true = refl
true_of_reports (reported_false e) = refl
true_of_reports (reported_residual t) = refl

false_of_reports : IsOfReports is_false
unfolding is_false
false_of_reports reported_true = refl
false_of_reports (reported_false e) = refl
false_of_reports (reported_residual t) = refl

residual_of_reports : IsOfReports is_residual
unfolding is_residual
residual_of_reports reported_true = refl
residual_of_reports (reported_false e) = refl
residual_of_reports (reported_residual t) = refl

map_cond : (b : Bool) (xs ys : List Row) → map erased_row (cond b xs ys) ≡ cond b (map erased_row xs) (map erased_row ys)
map_cond true xs ys = refl
map_cond false xs ys = refl

rows_of_erased : (effect : Effect) (such : Reported → Bool) → IsOfReports such → (rows : List Row) → rows_of effect such (map erased_row rows) ≡ map erased_row (rows_of effect such rows)
unfolding rows_of
rows_of_erased effect such of_reports [] = refl
rows_of_erased effect such of_reports (r ∷ rs) =
    let k = rows_of_erased effect such of_reports rs in
    (λ i. cond (has_effect effect r.effect) (cond (of_reports r.reported i) (erased_row r ∷ k i) (k i)) (k i))
    ∙ sym (map_cond (has_effect effect r.effect) (cond (such r.reported) (r ∷ rows_of effect such rs) (rows_of effect such rs)) (rows_of effect such rs)
    ∙ ap (λ (xs : List Row). cond (has_effect effect r.effect) xs (map erased_row (rows_of effect such rs)))
    (map_cond (such r.reported) (r ∷ rows_of effect such rs) (rows_of effect such rs)))

pub taken_alike : (effect : Effect) (such : Reported → Bool) → IsOfReports such → (rows others : List Row) → AreAlikeRows rows others → AreAlikeRows (rows_of effect such rows) (rows_of effect such others)
taken_alike effect such of_reports rows others h =
    sym (rows_of_erased effect such of_reports rows) ∙ ap (rows_of effect such) h ∙ rows_of_erased effect such of_reports others

pub trues_alike : (effect : Effect) (rows others : List Row) → AreAlikeRows rows others → AreAlikeRows (trues effect rows) (trues effect others)
trues_alike effect = taken_alike effect is_true true_of_reports

pub falses_alike : (effect : Effect) (rows others : List Row) → AreAlikeRows rows others → AreAlikeRows (falses effect rows) (falses effect others)
falses_alike effect = taken_alike effect is_false false_of_reports

pub residuals_alike : (effect : Effect) (rows others : List Row) → AreAlikeRows rows others → AreAlikeRows (residuals effect rows) (residuals effect others)
residuals_alike effect = taken_alike effect is_residual residual_of_reports

-- ---- what is read of rows without their residuals

map_append : (xs ys : List Row) → map erased_row (xs ++ ys) ≡ map erased_row xs ++ map erased_row ys
map_append [] ys = refl
map_append (x ∷ xs) ys = ap (λ (l : List Row). erased_row x ∷ l) (map_append xs ys)

pub append_alike : (xs xs' ys ys' : List Row) → AreAlikeRows xs xs' → AreAlikeRows ys ys' → AreAlikeRows (xs ++ ys) (xs' ++ ys')
append_alike xs xs' ys ys' h k = map_append xs ys ∙ (λ i. h i ++ k i) ∙ sym (map_append xs' ys')

ids_erased : (rows : List Row) → ids (map erased_row rows) ≡ ids rows
ids_erased [] = refl
ids_erased (r ∷ rs) = ap (λ (ts : List Text). r.id ∷ ts) (ids_erased rs)

pub ids_same : (rows others : List Row) → AreAlikeRows rows others → ids rows ≡ ids others
ids_same rows others h = sym (ids_erased rows) ∙ ap ids h ∙ ids_erased others

some_erased : (rows : List Row) → some_row (map erased_row rows) ≡ some_row rows
unfolding some_row
some_erased [] = refl
some_erased (r ∷ rs) = refl

pub some_same : (rows others : List Row) → AreAlikeRows rows others → some_row rows ≡ some_row others
some_same rows others h = sym (some_erased rows) ∙ ap some_row h ∙ some_erased others

cond_alike : (b : Bool) (xs xs' ys ys' : List Row) → AreAlikeRows xs xs' → AreAlikeRows ys ys' → AreAlikeRows (cond b xs ys) (cond b xs' ys')
cond_alike true xs xs' ys ys' h k = h
cond_alike false xs xs' ys ys' h k = k

pub conds_alike : (b c : Bool) → b ≡ c → (xs xs' ys ys' : List Row) → AreAlikeRows xs xs' → AreAlikeRows ys ys' → AreAlikeRows (cond b xs ys) (cond c xs' ys')
conds_alike b c e xs xs' ys ys' h k = subst (λ d. AreAlikeRows (cond b xs ys) (cond d xs' ys')) e (cond_alike b xs xs' ys ys' h k)

-- ---- rows sorted by effect and report

by_alike : (effect : Effect) (rows others : List Row) → AreAlikeRows rows others → AreAlikeRows (rows_by effect rows) (rows_by effect others)
by_alike effect rows others h =
    append_alike (trues effect rows) (trues effect others) (falses effect rows ++ residuals effect rows) (falses effect others ++ residuals effect others) (trues_alike effect rows others h)
    (append_alike (falses effect rows) (falses effect others) (residuals effect rows) (residuals effect others) (falses_alike effect rows others h) (residuals_alike effect rows others h))

pub sorted_alike : (rows others : List Row) → AreAlikeRows rows others → AreAlikeRows (rows_by permit rows ++ rows_by forbid rows) (rows_by permit others ++ rows_by forbid others)
sorted_alike rows others h =
    append_alike (rows_by permit rows) (rows_by permit others) (rows_by forbid rows) (rows_by forbid others) (by_alike permit rows others h) (by_alike forbid rows others h)

-- ---- the decision and what determines it

module _ (rows others : List Row) (h : AreAlikeRows rows others) where
  true_some : (e : Effect) → some_row (trues e rows) ≡ some_row (trues e others)
  true_some e = some_same (trues e rows) (trues e others) (trues_alike e rows others h)

  left_some : (e : Effect) → some_row (residuals e rows) ≡ some_row (residuals e others)
  left_some e = some_same (residuals e rows) (residuals e others) (residuals_alike e rows others h)

  abbrev given_by : Bool → Bool → Bool → Bool → Option Decision
  given_by tf tp rp rf =
      cond tf (Some deny) (cond (not (tp || rp)) (Some deny) (cond rf None (cond tp (Some allow) None)))

  pub given_same : given_decision rows ≡ given_decision others
  given_same = λ i. given_by (true_some forbid i) (true_some permit i) (left_some permit i) (left_some forbid i)

  pub must_alike : AreAlikeRows (must_determine rows) (must_determine others)
  must_alike =
      conds_alike (some_row (trues forbid rows) || some_row (residuals forbid rows)) (some_row (trues forbid others) || some_row (residuals forbid others))
      (λ i. true_some forbid i || left_some forbid i) (trues forbid rows) (trues forbid others) (trues permit rows) (trues permit others)
      (trues_alike forbid rows others h) (trues_alike permit rows others h)

  may_alike : AreAlikeRows (may_determine rows) (may_determine others)
  may_alike =
      conds_alike (some_row (trues forbid rows)) (some_row (trues forbid others)) (true_some forbid)
      (trues forbid rows ++ residuals forbid rows) (trues forbid others ++ residuals forbid others)
      (trues permit rows ++ (residuals permit rows ++ residuals forbid rows)) (trues permit others ++ (residuals permit others ++ residuals forbid others))
      (append_alike (trues forbid rows) (trues forbid others) (residuals forbid rows) (residuals forbid others) (trues_alike forbid rows others h) (residuals_alike forbid rows others h))
      (append_alike (trues permit rows) (trues permit others) (residuals permit rows ++ residuals forbid rows) (residuals permit others ++ residuals forbid others) (trues_alike permit rows others h)
      (append_alike (residuals permit rows) (residuals permit others) (residuals forbid rows) (residuals forbid others) (residuals_alike permit rows others h) (residuals_alike forbid rows others h)))

  pub report_the_same : ReportTheSame rows others
  report_the_same = record {
    given_same = given_same;
    must_same = ids_same (must_determine rows) (must_determine others) must_alike;
    may_same = ids_same (may_determine rows) (may_determine others) may_alike;
  }

  -- ---- made concrete

  concrete_same : (mode : ErrorHandling) → concrete_decision mode rows ≡ concrete_decision mode others
  concrete_same skip = λ i. cond (true_some permit i && not (true_some forbid i)) allow deny
  concrete_same forbid_on_error = λ i. cond (true_some permit i && not (true_some forbid i || left_some forbid i)) allow deny

  reasons_alike : (mode : ErrorHandling) → AreAlikeRows (concrete_reasons mode rows) (concrete_reasons mode others)
  reasons_alike skip = must_alike
  reasons_alike forbid_on_error =
      conds_alike (some_row (trues forbid rows) || some_row (residuals forbid rows)) (some_row (trues forbid others) || some_row (residuals forbid others))
      (λ i. true_some forbid i || left_some forbid i)
      (trues forbid rows ++ residuals forbid rows) (trues forbid others ++ residuals forbid others) (trues permit rows) (trues permit others)
      (append_alike (trues forbid rows) (trues forbid others) (residuals forbid rows) (residuals forbid others) (trues_alike forbid rows others h) (residuals_alike forbid rows others h))
      (trues_alike permit rows others h)

-- ---- errors

abbrev left_kind : Row → (Text × FailureKind)
left_kind r = (r.id, of_residual)

kinds_left : (rows : List Row) → failure_kinds (map residual_error rows) ≡ map {B = Text × FailureKind} left_kind rows
unfolding failure_kind
kinds_left [] = refl
kinds_left (r ∷ rs) = ap (λ (ks : List (Text × FailureKind)). left_kind r ∷ ks) (kinds_left rs)

left_erased : (rows : List Row) → map {B = Text × FailureKind} left_kind (map erased_row rows) ≡ map {B = Text × FailureKind} left_kind rows
left_erased [] = refl
left_erased (r ∷ rs) = ap (λ (ks : List (Text × FailureKind)). left_kind r ∷ ks) (left_erased rs)

left_same : (rows others : List Row) → AreAlikeRows rows others → failure_kinds (map residual_error rows) ≡ failure_kinds (map residual_error others)
left_same rows others h =
    kinds_left rows ∙ sym (left_erased rows) ∙ ap (map {B = Text × FailureKind} left_kind) h ∙ left_erased others ∙ sym (kinds_left others)

kinds_append : (es fs : List (Text × Failure)) → failure_kinds (es ++ fs) ≡ failure_kinds es ++ failure_kinds fs
kinds_append [] fs = refl
kinds_append (e ∷ es) fs = ap (λ (ks : List (Text × FailureKind)). (e.0, failure_kind e.1) ∷ ks) (kinds_append es fs)

errors_same : (rows others : List Row) → AreAlikeRows rows others → (errors other_errors : List (Text × Failure)) → failure_kinds errors ≡ failure_kinds other_errors
    → failure_kinds (concrete_errors rows errors) ≡ failure_kinds (concrete_errors others other_errors)
errors_same rows others h errors other_errors k =
    let split : (rs : List Row) (es : List (Text × Failure)) → failure_kinds (concrete_errors rs es)
    ≡ failure_kinds (map residual_error (residuals forbid rs)) ++ (failure_kinds (map residual_error (residuals permit rs)) ++ failure_kinds es)
    = λ rs es. kinds_append (map residual_error (residuals forbid rs)) (map residual_error (residuals permit rs) ++ es)
    ∙ ap (λ (ks : List (Text × FailureKind)). failure_kinds (map residual_error (residuals forbid rs)) ++ ks) (kinds_append (map residual_error (residuals permit rs)) es) in
    let f : failure_kinds (map residual_error (residuals forbid rows)) ≡ failure_kinds (map residual_error (residuals forbid others))
    = left_same (residuals forbid rows) (residuals forbid others) (residuals_alike forbid rows others h) in
    let p : failure_kinds (map residual_error (residuals permit rows)) ≡ failure_kinds (map residual_error (residuals permit others))
    = left_same (residuals permit rows) (residuals permit others) (residuals_alike permit rows others h) in
    split rows errors ∙ (λ i. f i ++ (p i ++ k i)) ∙ sym (split others other_errors)

pub answer_alike : (mode : ErrorHandling) (rows others : List Row) (errors other_errors : List (Text × Failure)) → AreAlikeRuns rows others errors other_errors
    → AreAlikeResponses (concretized mode rows errors) (concretized mode others other_errors)
answer_alike mode rows others errors other_errors h = record {
  decision_same = concrete_same rows others h.rows_alike mode;
  reasons_same = λ t. ap (has_text t) (ids_same (concrete_reasons mode rows) (concrete_reasons mode others) (reasons_alike rows others h.rows_alike mode));
  kinds_same = errors_same rows others h.rows_alike errors other_errors h.kinds_same;
}

-- ---- where no residual is left

none_more : (effect : Effect) (r : Row) (rows : List Row) → rows_of effect is_residual (r ∷ rows) ≡ [] → rows_of effect is_residual rows ≡ []
unfolding rows_of
none_more effect r rows = by (has_effect effect r.effect) (is_residual r.reported)
  where
    by : (b c : Bool) → cond b (cond c (r ∷ rows_of effect is_residual rows) (rows_of effect is_residual rows)) (rows_of effect is_residual rows) ≡ []
        → rows_of effect is_residual rows ≡ []
    by true true e = absurd (cc)
    by true false e = e
    by false c e = e

none_first : (rows : List Row) (r : Row) → HaveNoResidual (r ∷ rows) → is_residual r.reported ≡ false
unfolding rows_of has_effect
none_first rows r k = by r.effect (is_residual r.reported) k.0 k.1
  where
    by : (e : Effect) (c : Bool)
        → cond (has_effect permit e) (cond c (r ∷ rows_of permit is_residual rows) (rows_of permit is_residual rows)) (rows_of permit is_residual rows) ≡ []
        → cond (has_effect forbid e) (cond c (r ∷ rows_of forbid is_residual rows) (rows_of forbid is_residual rows)) (rows_of forbid is_residual rows) ≡ []
        → c ≡ false
    by permit true p f = absurd (cc)
    by forbid true p f = absurd (cc)
    by e false p f = refl

report_known : (o : Reported) → is_residual o ≡ false → erased_report o ≡ o
unfolding is_residual
report_known reported_true h = refl
report_known (reported_false e) h = refl
report_known (reported_residual t) h = absurd (true≢false h)

abbrev with_report : Row → Reported → Row
with_report r o = record { id = r.id; effect = r.effect; annotations = r.annotations; reported = o }

pub known_erased : (rows : List Row) → HaveNoResidual rows → map erased_row rows ≡ rows
known_erased [] k = refl
known_erased (r ∷ rs) k =
    let row : erased_row r ≡ r = ap (with_report r) (report_known r.reported (none_first rs r k)) in
    let rest : map erased_row rs ≡ rs = known_erased rs (none_more permit r rs k.0, none_more forbid r rs k.1) in
    λ i. row i ∷ rest i

residual_erased : (rows others : List Row) (effect : Effect) → AreAlikeRows rows others → residuals effect rows ≡ [] → residuals effect others ≡ []
residual_erased rows others effect h e =
    by (residuals effect others) (sym (residuals_alike effect rows others h) ∙ ap (map erased_row) e)
  where
    by : (xs : List Row) → map erased_row xs ≡ [] → xs ≡ []
    by [] g = refl
    by (x ∷ xs) g = absurd (cc)

pub rows_equal : (rows others : List Row) → HaveNoResidual rows → AreAlikeRows rows others → rows ≡ others
rows_equal rows others k h =
    sym (known_erased rows k) ∙ h ∙ known_erased others (residual_erased rows others permit h k.0, residual_erased rows others forbid h k.1)
