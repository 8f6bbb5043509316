-- What is left of policies that are carried on: nothing, where nothing was left of them before.
use Rattle.std.specs.Prelude.{◌≡◌, ℕ, Bool, true, false, cond, List, [], ◌∷◌, ◌++◌, map, Result, Ok, Err, MatchBool, MatchResult}
use Rattle.std.proofs.Common.{inl, inr, refl, sym, ap, ◌∙◌, subst}
use Rattle.cedar_model.specs.Terms.{Text, bool_literal, Term, literal}
use Rattle.cedar_model.specs.Outcomes.{bool_of}
use Rattle.cedar_model.specs.Failures.{Failure, Answer}
use Rattle.cedar_model.specs.Settings.{Setting}
use Rattle.cedar_model.specs.Rules.{StoredCalls, Runs}
use Rattle.cedar_model.specs.Agreement.{no_slots}
use Rattle.cedar_model.specs.Policies.{Effect, permit, forbid, ErrorHandling}
use Rattle.cedar_model.specs.Responses.{Reported, reported_true, reported_false, reported_residual, Row, decided, decided_bool, reported_of, with_slots, truth, clause_of, carried, RunOf}
use Rattle.cedar_model.specs.Terms.{both}
use Rattle.cedar_model.specs.Refusals.{Refusal}
use Rattle.cedar_model.specs.Chains.{ChainStep, Response, has_effect, is_true, is_false, is_residual, rows_of, rows_by, all_residuals, has_limit, at_step, Steps, ChainOf}
use Rattle.cedar_model.specs.Reports.{residuals, HaveNoResidual}
use Rattle.cedar_model.proofs.Carried.{IsBoolOrLimit, literal_always, clause_always}
use Rattle.cedar_model.proofs.Concrete.{residual_same}
use Rattle.cedar_model.proofs.Stepping.{taken}
use Rattle.cedar_model.proofs.Configured.{configured_by, in_step}
use Rattle.cedar_model.proofs.Injections.{ok_inj, ok_is_not_err}

-- ---- rows of which nothing is left

abbrev IsSettled : Reported → Type 0
IsSettled o = is_residual o ≡ false

abbrev AreSettled : List Row → Type 0
AreSettled [] = Unit {0}
AreSettled (r ∷ rs) = IsSettled r.reported × AreSettled rs

settled_append : (xs ys : List Row) → AreSettled xs → AreSettled ys → AreSettled (xs ++ ys)
settled_append [] ys h k = k
settled_append (x ∷ xs) ys h k = (h.0, settled_append xs ys h.1 k)

settled_true : (o : Reported) → is_true o ≡ true → IsSettled o
unfolding is_true is_residual
settled_true reported_true e = refl
settled_true (reported_false b) e = refl
settled_true (reported_residual t) e = absurd (cc)

settled_false : (o : Reported) → is_false o ≡ true → IsSettled o
unfolding is_false is_residual
settled_false reported_true e = refl
settled_false (reported_false b) e = refl
settled_false (reported_residual t) e = absurd (cc)

settled_of : (e : Effect) (such : Reported → Bool) → ((o : Reported) → such o ≡ true → IsSettled o) → (rows : List Row) → AreSettled (rows_of e such rows)
unfolding rows_of
settled_of e such h [] = tt
settled_of e such h (r ∷ rs) = by (has_effect e r.effect) (such r.reported) (h r.reported) (rows_of e such rs) (settled_of e such h rs)
  where
    by : (b c : Bool) → (c ≡ true → IsSettled r.reported) → (rest : List Row) → AreSettled rest → AreSettled (cond b (cond c (r ∷ rest) rest) rest)
    by true true g rest k = (g refl, k)
    by true false g rest k = k
    by false c g rest k = k

settled_by : (e : Effect) (rows : List Row) → residuals e rows ≡ [] → AreSettled (rows_by e rows)
settled_by e rows none =
    settled_append (rows_of e is_true rows) _ (settled_of e is_true settled_true rows)
    (settled_append (rows_of e is_false rows) _ (settled_of e is_false settled_false rows) (subst AreSettled (sym none) tt))

residuals_settled : (e : Effect) (rows : List Row) → AreSettled rows → residuals e rows ≡ []
unfolding rows_of
residuals_settled e [] h = refl
residuals_settled e (r ∷ rs) h = by (has_effect e r.effect) (is_residual r.reported) h.0 (rows_of e is_residual rs) (residuals_settled e rs h.1)
  where
    by : (b c : Bool) → c ≡ false → (rest : List Row) → rest ≡ [] → cond b (cond c (r ∷ rest) rest) rest ≡ []
    by true true g rest k = absurd (cc)
    by true false g rest k = k
    by false c g rest k = k

-- ---- carried on

settled_answer : (b : Bool) (a : Answer) → IsBoolOrLimit b a → IsSettled (reported_of (decided a))
unfolding decided decided_bool reported_of is_residual bool_of
settled_answer b a (inl e) = ap (λ x. is_residual (reported_of (decided x))) e
settled_answer true a (inr e) = ap (λ x. is_residual (reported_of (decided x))) e
settled_answer false a (inr e) = ap (λ x. is_residual (reported_of (decided x))) e

module _ (mode : ErrorHandling) (s : Setting) (calls : StoredCalls) (levels : ℕ) where
  literal_row : (b : Bool) (t : Term) (a : Answer) → t ≡ literal (bool_literal b) → Runs (with_slots s no_slots) calls levels (both (both (both truth truth) truth) t) a → IsSettled (reported_of (decided a))
  literal_row b t a e runs =
      settled_answer b a (clause_always (with_slots s no_slots) calls b (literal (bool_literal b)) (literal_always (with_slots s no_slots) calls b) levels a
      (subst (λ u. Runs (with_slots s no_slots) calls levels (both (both (both truth truth) truth) u) a) e runs))

  settled_row : (o : Reported) (a : Answer) → IsSettled o → Runs (with_slots s no_slots) calls levels (both (both (both truth truth) truth) (clause_of o)) a → IsSettled (reported_of (decided a))
  unfolding clause_of is_residual
  settled_row reported_true a h runs = literal_row true truth a refl runs
  settled_row (reported_false b) a h runs = literal_row false (literal (bool_literal false)) a refl runs
  settled_row (reported_residual t) a h runs = absurd (cc)

  settled_run : (old rows : List Row) (errors : List (Text × Failure)) → AreSettled old → RunOf mode s calls levels (map carried old) rows errors → AreSettled rows
  settled_run [] rows errors h run = subst AreSettled (sym run.0) tt
  settled_run (q ∷ qs) rows errors h (a, rest, later, runs, found, run, e, f) =
      subst AreSettled (sym e) (residual_same mode q.effect (reported_of (decided a)) ∙ settled_row q.reported a h.0 runs, settled_run qs rest later h.1 run)

  pub none_carried : (old rows : List Row) (errors : List (Text × Failure)) → HaveNoResidual old → RunOf mode s calls levels (all_residuals old) rows errors → HaveNoResidual rows
  none_carried old rows errors h run =
      let k = settled_run (rows_by permit old ++ rows_by forbid old) rows errors (settled_append (rows_by permit old) (rows_by forbid old) (settled_by permit old h.0) (settled_by forbid old h.1)) run in
      (residuals_settled permit rows k, residuals_settled forbid rows k)

-- ---- chains

module _ (mode : ErrorHandling) (s : Setting) (calls : StoredCalls) (levels : ℕ) where
  pub none_left : (steps : List ChainStep) (r last : Response) → ChainOf (configured_by calls mode s levels) r steps last → HaveNoResidual r.rows → HaveNoResidual last.rows
  none_left [] r last h none = subst (λ (x : Response). HaveNoResidual x.rows) (sym (ok_inj h)) none
  none_left (step ∷ steps) r last h none = by (has_limit r.errors) (λ next. none_left steps next last) h
    where
      on : (y : Result Response Refusal) → ((next : Response) → ChainOf (configured_by calls mode s levels) next steps last → HaveNoResidual next.rows → HaveNoResidual last.rows) → Steps (configured_by calls mode (in_step s step) levels) step.mapping step.store r y → MatchResult y (λ next. ChainOf (configured_by calls mode s levels) next steps last) (λ e. ◌≡◌ {A = Result Response Refusal} (Ok last) (Err e)) → HaveNoResidual last.rows
      on (Ok next) leads g k =
          let t = taken mode (in_step s step) calls levels step.mapping step.store r next g in
          leads next k (none_carried mode (at_step s.extensions step.resolution next.request step.store step.mapping) calls levels r.rows next.rows next.errors none t.runs)
      on (Err e) leads g k = absurd (ok_is_not_err k)

      by : (b : Bool) → ((next : Response) → ChainOf (configured_by calls mode s levels) next steps last → HaveNoResidual next.rows → HaveNoResidual last.rows) → MatchBool b (◌≡◌ {A = Result Response Refusal} (Ok last) (Ok r)) ((y : Result Response Refusal) × Steps (configured_by calls mode (in_step s step) levels) step.mapping step.store r y × MatchResult y (λ next. ChainOf (configured_by calls mode s levels) next steps last) (λ e. ◌≡◌ {A = Result Response Refusal} (Ok last) (Err e))) → HaveNoResidual last.rows
      by true leads k = subst (λ (x : Response). HaveNoResidual x.rows) (sym (ok_inj k)) none
      by false leads (y, g, k) = on y leads g k
