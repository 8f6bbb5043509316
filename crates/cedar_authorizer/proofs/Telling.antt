-- Policies that are false tell nothing in a response that is made concrete.
use Rattle.std.specs.Prelude.{◌≡◌, ℕ, Bool, true, false, cond, List, [], ◌∷◌, ◌++◌, map, Option, Some, None}
use Rattle.std.proofs.Common.{inl, inr, refl, sym, ap, ◌∙◌, subst, append_assoc}
use Rattle.std.proofs.lemmas.List.{append-nil}
use Rattle.cedar_model.specs.Terms.{Text}
use Rattle.cedar_model.specs.Outcomes.{bool_of}
use Rattle.cedar_model.specs.Values.{Represented, abstract_value}
use Rattle.cedar_model.specs.Failures.{Failure, value, residual, Answer, answers, fails, answers_bool, answers_value, out_of_memory}
use Rattle.cedar_model.specs.Settings.{Setting}
use Rattle.cedar_model.specs.Rules.{StoredCalls, Runs}
use Rattle.cedar_model.specs.Policies.{Policy, Effect, permit, forbid, ErrorHandling, skip, forbid_on_error}
use Rattle.cedar_model.specs.Responses.{Row, Reported, reported_false, Decided, decides, errs_with, leaves, decided, decided_bool, reported_of, error_of, counted_report, with_slots, with_error, row_of, RunOf}
use Rattle.cedar_model.specs.Chains.{has_effect, is_true, is_residual, rows_of}
use Rattle.cedar_model.specs.Authorizations.{Authorized}
use Rattle.cedar_model.specs.Reports.{trues, residuals, concretized}
use Rattle.cedar_model.proofs.Configured.{configured_by}
use Rattle.cedar_interpreter.specs.Booleans.{is_bool}
use Rattle.cedar_layers.specs.Policies.{PolicyView, condition_term, decides_as, first_repeated, first_repeated_after}
use Rattle.cedar_layers.specs.declared.policies.policy_set.PolicySet.{PolicySet}
use Rattle.cedar_authorizer.specs.declared.responses.partial_response.PartialResponse.{PartialResponse}
use Rattle.cedar_authorizer.specs.declared.responses.sheet.ConditionOutcome.{ConditionOutcome}
use Rattle.cedar_authorizer.specs.declared.responses.sheet.Sheet.{Sheet}
use Rattle.cedar_authorizer.specs.responses.Rows.{mode_of, rows_view}
use Rattle.cedar_authorizer.specs.responses.Sheets.{outcome_view, sheet_view, nothing_noted, noting}
use Rattle.cedar_authorizer.specs.Responding.{considered}
use Rattle.cedar_authorizer.specs.Running.{errors_of, IsConcreteRun, ComesOutBy, KeepsSheet}
use Rattle.cedar_layers.specs.Scopes.{AreAllBut}
use Rattle.cedar_authorizer.specs.Telling.{IsFalse, IsToldRun, tells_nothing, noting_what_tells}
use Rattle.cedar_authorizer.proofs.Deciding.{concretized_alike, run_concrete}
use Rattle.cedar_authorizer.proofs.Distinct.{is_seen, seen_first, seen_later, repeated_step, repeated_weaker, weaker_front}
use Rattle.cedar_authorizer.proofs.Noting.{noted_none, noted_run, noted_all, is_run_of, set_ids_apart}

-- ---- all but some

module _ {A : Type 0} (Such : A → Type 0) where
  -- one more that is such
  pub one_left_out : (xs ys : List A) (x : A) → AreAllBut Such xs ys → Such x → AreAllBut Such (xs ++ x ∷ []) ys
  one_left_out [] ys x e s = inl (s, e)
  one_left_out (y ∷ xs) ys x (inl h) s = inl (h.0, one_left_out xs ys x h.1 s)
  one_left_out (y ∷ xs) ys x (inr h) s = inr (h.0, h.1, one_left_out xs h.0 x h.2 s)

  -- one more of both
  pub one_taken : (xs ys : List A) (x : A) → AreAllBut Such xs ys → AreAllBut Such (xs ++ x ∷ []) (ys ++ x ∷ [])
  one_taken [] ys x e = inr ([], ap (λ (l : List A). l ++ x ∷ []) e, refl)
  one_taken (y ∷ xs) ys x (inl h) = inl (h.0, one_taken xs ys x h.1)
  one_taken (y ∷ xs) ys x (inr h) = inr (h.0 ++ x ∷ [], ap (λ (l : List A). l ++ x ∷ []) h.1, one_taken xs h.0 x h.2)

  -- some that are left out of those that are left
  pub more_left_out : (xs ys zs : List A) → AreAllBut Such xs ys → AreAllBut Such ys zs → AreAllBut Such xs zs
  more_left_out [] ys zs e g = subst (λ (l : List A). AreAllBut Such l zs) e g
  more_left_out (x ∷ xs) ys zs (inl h) g = inl (h.0, more_left_out xs ys zs h.1 g)
  more_left_out (x ∷ xs) ys zs (inr h) g =
      by (λ ws k. more_left_out xs h.0 ws h.2 k) (subst (λ (l : List A). AreAllBut Such l zs) h.1 g)
    where
      by : ((ws : List A) → AreAllBut Such h.0 ws → AreAllBut Such xs ws) → AreAllBut Such (x ∷ h.0) zs → AreAllBut Such (x ∷ xs) zs
      by more (inl k) = inl (k.0, more zs k.1)
      by more (inr k) = inr (k.0, k.1, more k.0 k.2)

-- where all are distinct, so are these
pub others_apart : (Such : Policy → Type 0) (seen : List Text) (ps qs : List Policy) → AreAllBut Such ps qs → first_repeated_after seen (map (λ (p : Policy). p.id) ps) ≡ None → first_repeated_after seen (map (λ (p : Policy). p.id) qs) ≡ None
others_apart Such seen [] qs e h = ap (λ (l : List Policy). first_repeated_after seen (map (λ (p : Policy). p.id) l)) e
others_apart Such seen (p ∷ ps) qs (inl k) h =
    repeated_weaker (seen ++ p.id ∷ []) seen (map (λ (q : Policy). q.id) qs) (weaker_front seen p.id)
    (others_apart Such (seen ++ p.id ∷ []) ps qs k.1 (seen_later (is_seen p.id seen) p.id _ h))
others_apart Such seen (p ∷ ps) qs (inr k) h =
    ap (λ (l : List Policy). first_repeated_after seen (map (λ (q : Policy). q.id) l)) k.1
    ∙ repeated_step seen (map (λ (q : Policy). q.id) k.0) p.id (seen_first (is_seen p.id seen) p.id _ h)
    (others_apart Such (seen ++ p.id ∷ []) ps k.0 k.2 (seen_later (is_seen p.id seen) p.id _ h))

-- an answer that decides false is false

false_value : (v : Represented) (o : Option Bool) → bool_of (abstract_value v) ≡ o → decides false ≡ decided_bool o v → answers_value v ≡ answers_bool false
unfolding decided_bool
false_value v (Some b) e h =
    let same : false ≡ b = cc in
    is_bool v b e ∙ ap answers_bool (sym same)
false_value v None e h = absurd (cc)

false_answer : (a : Answer) → decides false ≡ decided a → a ≡ answers_bool false
unfolding decided
false_answer (answers (value v)) h = false_value v (bool_of (abstract_value v)) refl h
false_answer (answers (residual t)) h = absurd (cc)
false_answer (fails e) h = absurd (cc)

-- ---- the loop

-- the policies before those that are left are noted or tell nothing
pub record IsToldSoFar (mode : ErrorHandling) (s : Setting) (calls : StoredCalls) (levels : ℕ) (all : List Policy) (sheet : Sheet) (left : List Policy) : Type 0 where
  pub done : List Policy
  pub run : IsToldRun mode s calls levels done sheet
  pub same : all ≡ done ++ left

module _ (mode : ErrorHandling) (s : Setting) (calls : StoredCalls) (levels : ℕ) where
  pub told_none : (all : List Policy) (sheet : Sheet) (left : List Policy) → sheet_view sheet ≡ nothing_noted → all ≡ left → IsToldSoFar mode s calls levels all sheet left
  told_none all sheet left e same = record {
    done = [];
    run = record { telling = []; others = refl; noted = noted_all mode s calls levels [] sheet [] refl (noted_none mode s calls levels [] sheet [] e refl) };
    same = same;
  }

  false_out : (p : PolicyView) (d : Decided) → tells_nothing d ≡ true → ComesOutBy (λ a. Runs (with_slots s p.slots) calls levels (condition_term p) a) d → IsFalse s calls levels (decides_as p)
  unfolding tells_nothing
  false_out p (decides true) e out = absurd (cc)
  false_out p (decides false) e out =
      subst (Runs (with_slots s p.slots) calls levels (condition_term p)) (false_answer out.0 out.3) out.1
  false_out p (errs_with f) e out = absurd (cc)
  false_out p (leaves t) e out = absurd (cc)

  pub told_run : (done : List Policy) (old new : Sheet) (p : PolicyView) (o : ConditionOutcome) → IsToldRun mode s calls levels done old → ComesOutBy (λ a. Runs (with_slots s p.slots) calls levels (condition_term p) a) (outcome_view o) → sheet_view new ≡ noting_what_tells mode (sheet_view old) p o → IsToldRun mode s calls levels (done ++ decides_as p ∷ []) new
  told_run done old new p o before out placed = by (tells_nothing (outcome_view o)) refl
    where
      by : (b : Bool) → tells_nothing (outcome_view o) ≡ b → IsToldRun mode s calls levels (done ++ decides_as p ∷ []) new
      by true e = record {
        telling = before.telling;
        others = one_left_out (IsFalse s calls levels) done before.telling (decides_as p) before.others (false_out p (outcome_view o) e out);
        noted = record {
          located = before.noted.located;
          errors = before.noted.errors;
          run = before.noted.run;
          noted = placed ∙ ap (λ (b : Bool). cond b (sheet_view old) (noting mode (sheet_view old) p o)) e ∙ before.noted.noted;
        };
      }
      by false e = record {
        telling = before.telling ++ decides_as p ∷ [];
        others = one_taken (IsFalse s calls levels) done before.telling (decides_as p) before.others;
        noted = noted_run mode s calls levels before.telling old new p o before.noted out (placed ∙ ap (λ (b : Bool). cond b (sheet_view old) (noting mode (sheet_view old) p o)) e);
      }

  pub told_more : (all : List Policy) (old new : Sheet) (p : PolicyView) (o : ConditionOutcome) (rest left : List Policy) → left ≡ decides_as p ∷ rest → IsToldSoFar mode s calls levels all old left → ComesOutBy (λ a. Runs (with_slots s p.slots) calls levels (condition_term p) a) (outcome_view o) → sheet_view new ≡ noting_what_tells mode (sheet_view old) p o → IsToldSoFar mode s calls levels all new rest
  told_more all old new p o rest left e before out placed = record {
    done = before.done ++ decides_as p ∷ [];
    run = told_run before.done old new p o before.run out placed;
    same = before.same ∙ ap (λ (l : List Policy). before.done ++ l) e ∙ sym (append_assoc before.done (decides_as p ∷ []) rest);
  }

  pub told_all : (all : List Policy) (sheet : Sheet) (left : List Policy) → left ≡ [] → IsToldSoFar mode s calls levels all sheet left → IsToldRun mode s calls levels all sheet
  told_all all sheet left e before =
      subst (λ (l : List Policy). IsToldRun mode s calls levels l sheet) (sym (before.same ∙ ap (λ (l : List Policy). before.done ++ l) e ∙ append-nil before.done)) before.run

-- a run of those that are left, where the others are false
pub told_of_all : (mode : ErrorHandling) (s : Setting) (calls : StoredCalls) (levels : ℕ) (all some : List Policy) (sheet : Sheet) → AreAllBut (IsFalse s calls levels) all some → IsToldRun mode s calls levels some sheet → IsToldRun mode s calls levels all sheet
told_of_all mode s calls levels all some sheet others told = record {
  telling = told.telling;
  others = more_left_out (IsFalse s calls levels) all some told.telling others told.others;
  noted = told.noted;
}

-- a run in a setting, by functions and with levels that are the same
pub told_alike : (mode : ErrorHandling) (s z : Setting) (calls others : StoredCalls) (levels limit : ℕ) (ps : List Policy) (sheet : Sheet) → s ≡ z → calls ≡ others → levels ≡ limit → IsToldRun mode s calls levels ps sheet → IsToldRun mode z others limit ps sheet
told_alike mode s z calls others levels limit ps sheet e f n run =
    subst (λ q. IsToldRun mode z others q ps sheet) n (subst (λ q. IsToldRun mode z q levels ps sheet) f (subst (λ q. IsToldRun mode q calls levels ps sheet) e run))

-- ---- the rows of all

-- the same rows are true, and the same are residual
pub record TellAlike (all rows : List Row) : Type 0 where
  pub true_permits : trues permit all ≡ trues permit rows
  pub residual_permits : residuals permit all ≡ residuals permit rows
  pub true_forbids : trues forbid all ≡ trues forbid rows
  pub residual_forbids : residuals forbid all ≡ residuals forbid rows

module _ (e : Effect) (such : Reported → Bool) where
  not_among : (r : Row) (rows : List Row) → such r.reported ≡ false → rows_of e such (r ∷ rows) ≡ rows_of e such rows
  unfolding rows_of
  not_among r rows h = by (has_effect e r.effect) (such r.reported) h
    where
      by : (b c : Bool) → c ≡ false → cond b (cond c (r ∷ rows_of e such rows) (rows_of e such rows)) (rows_of e such rows) ≡ rows_of e such rows
      by b true g = absurd (cc)
      by true false g = refl
      by false false g = refl

  one_among : (r : Row) (all rows : List Row) → rows_of e such all ≡ rows_of e such rows → rows_of e such (r ∷ all) ≡ rows_of e such (r ∷ rows)
  unfolding rows_of
  one_among r all rows h = ap (λ (l : List Row). cond (has_effect e r.effect) (cond (such r.reported) (r ∷ l) l) l) h

false_tells_nothing : (r : Row) (all rows : List Row) → r.reported ≡ reported_false false → TellAlike all rows → TellAlike (r ∷ all) rows
unfolding is_true is_residual
false_tells_nothing r all rows e h = record {
  true_permits = not_among permit is_true r all (ap is_true e) ∙ h.true_permits;
  residual_permits = not_among permit is_residual r all (ap is_residual e) ∙ h.residual_permits;
  true_forbids = not_among forbid is_true r all (ap is_true e) ∙ h.true_forbids;
  residual_forbids = not_among forbid is_residual r all (ap is_residual e) ∙ h.residual_forbids;
}

one_alike : (r : Row) (all rows : List Row) → TellAlike all rows → TellAlike (r ∷ all) (r ∷ rows)
one_alike r all rows h = record {
  true_permits = one_among permit is_true r all rows h.true_permits;
  residual_permits = one_among permit is_residual r all rows h.residual_permits;
  true_forbids = one_among forbid is_true r all rows h.true_forbids;
  residual_forbids = one_among forbid is_residual r all rows h.residual_forbids;
}

counted_false : (mode : ErrorHandling) (e : Effect) → counted_report mode e (reported_false false) ≡ reported_false false
unfolding counted_report
counted_false skip e = refl
counted_false forbid_on_error permit = refl
counted_false forbid_on_error forbid = refl

reported_unsatisfied : reported_of (decided (answers_bool false)) ≡ reported_false false
unfolding reported_of decided decided_bool bool_of
reported_unsatisfied = refl

no_error : (id : Text) (errors : List (Text × Failure)) → errors ≡ with_error id (error_of (decided (answers_bool false))) errors
unfolding with_error error_of decided decided_bool bool_of
no_error id errors = refl

module _ (mode : ErrorHandling) (s : Setting) (calls : StoredCalls) (levels : ℕ) where
  record IsRunOfAll (ps : List Policy) (rows : List Row) (errors : List (Text × Failure)) : Type 0 where
    pub all : List Row
    pub run : RunOf mode s calls levels ps all errors
    pub alike : TellAlike all rows

  same_rows : (rows : List Row) → TellAlike rows rows
  same_rows rows = record { true_permits = refl; residual_permits = refl; true_forbids = refl; residual_forbids = refl }

  all_run : (ps qs : List Policy) → AreAllBut (IsFalse s calls levels) ps qs → (rows : List Row) (errors : List (Text × Failure)) → RunOf mode s calls levels qs rows errors → IsRunOfAll ps rows errors
  all_run [] qs e rows errors run = record {
    all = rows;
    run = subst (λ (l : List Policy). RunOf mode s calls levels l rows errors) e run;
    alike = same_rows rows;
  }
  all_run (p ∷ ps) qs (inl h) rows errors run =
      let rest = all_run ps qs h.1 rows errors run in
      record {
        all = row_of mode p (answers_bool false) ∷ rest.all;
        run = (answers_bool false, rest.all, errors, h.0, (λ (w : answers_bool false ≡ fails out_of_memory). cc), rest.run, refl, no_error p.id errors);
        alike = false_tells_nothing (row_of mode p (answers_bool false)) rest.all rows (ap (counted_report mode p.effect) reported_unsatisfied ∙ counted_false mode p.effect) rest.alike;
      }
  all_run (p ∷ ps) qs (inr h) rows errors run =
      let here : RunOf mode s calls levels (p ∷ h.0) rows errors = subst (λ (l : List Policy). RunOf mode s calls levels l rows errors) h.1 run in
      let rest = all_run ps h.0 h.2 here.1 here.2 here.5 in
      record {
        all = row_of mode p here.0 ∷ rest.all;
        run = (here.0, rest.all, here.2, here.3, here.4, rest.run, refl, here.7);
        alike = subst (TellAlike (row_of mode p here.0 ∷ rest.all)) (sym here.6) (one_alike (row_of mode p here.0) rest.all here.1 rest.alike);
      }

  -- a run that is told of a set, made concrete, is the run of all
  pub told_concrete : (policies : PolicySet) (sheet : Sheet) (p : PartialResponse) (r : Authorized) → IsToldRun mode s calls levels (considered policies) sheet → mode_of p ≡ mode → KeepsSheet sheet p
      → r ≡ concretized (mode_of p) (rows_view p) (errors_of p) → IsConcreteRun (configured_by calls mode s levels) s (considered policies) r
  told_concrete policies sheet p r told is_in keeps e =
      let apart : first_repeated (map (λ (q : Policy). q.id) told.telling) ≡ None =
      others_apart (IsFalse s calls levels) [] (considered policies) told.telling told.others (set_ids_apart policies) in
      let c = run_concrete mode s calls levels told.telling p r (is_run_of mode s calls levels told.telling sheet p apart told.noted is_in keeps) e in
      let all = all_run (considered policies) told.telling told.others c.rows c.errors c.run in
      record {
        rows = all.all;
        errors = c.errors;
        run = all.run;
        concrete = c.concrete ∙ sym (concretized_alike all.all c.rows all.alike.true_permits all.alike.residual_permits all.alike.true_forbids all.alike.residual_forbids mode c.errors);
      }
