-- A sheet on which the policies are noted one by one, and the response of it.
use Rattle.std.specs.Prelude.{◌≡◌, ℕ, Bool, List, [], ◌∷◌, ◌++◌, map, None, Result, Ok, Err, IfOk}
use Rattle.std.proofs.Common.{refl, sym, ap, ◌∙◌, subst, append_assoc}
use Rattle.std.proofs.lemmas.List.{append-nil, map-append}
use Rattle.cedar_model.specs.Terms.{Text}
use Rattle.cedar_model.specs.Failures.{Failure}
use Rattle.cedar_model.specs.Settings.{Setting}
use Rattle.cedar_model.specs.Rules.{StoredCalls, Runs}
use Rattle.cedar_model.specs.Policies.{Policy, Effect, permit, forbid, ErrorHandling}
use Rattle.cedar_model.specs.Responses.{Row, Reported, Decided, decided, reported_of, error_of, counted_report, with_slots, with_error, RunOf}
use Rattle.cedar_model.specs.Chains.{is_true, is_false, is_residual, rows_of}
use Rattle.cedar_model.specs.Reports.{ids}
use Rattle.cedar_layers.specs.declared.policies.policy.PolicyID.{PolicyID}
use Rattle.cedar_layers.specs.Policies.{PolicyView, policy_id_text, condition_term, decides_as, policy_ids, first_repeated}
use Rattle.cedar_layers.specs.declared.policies.policy_set.PolicySet.{PolicySet}
use Rattle.cedar_layers.specs.PolicySets.{policies_view}
use Rattle.cedar_authorizer.specs.declared.responses.partial_response.PartialResponse.{PartialResponse}
use Rattle.cedar_authorizer.specs.declared.responses.sheet.ConditionOutcome.{ConditionOutcome}
use Rattle.cedar_authorizer.specs.declared.responses.sheet.Sheet.{Sheet}
use Rattle.cedar_authorizer.specs.responses.Kept.{kept}
use Rattle.cedar_authorizer.specs.responses.Responses.{errors_view}
use Rattle.cedar_authorizer.specs.responses.Rows.{mode_of, Located, located_true, located_false, located_residual}
use Rattle.cedar_authorizer.specs.responses.Rows.{rows_in, located_of}
use Rattle.cedar_authorizer.specs.responses.Sheets.{Noted, outcome_view, placed_row, sheet_view, sorted, nothing_noted}
use Rattle.cedar_authorizer.specs.responses.Sheets.{noted_also}
use Rattle.cedar_authorizer.proofs.Noted.{sorted_none, sorted_more}
use Rattle.cedar_authorizer.proofs.Rows.{rows_of_located}
use Rattle.cedar_authorizer.specs.Responding.{considered}
use Rattle.cedar_authorizer.specs.Running.{HoldsRows, IsRun, ComesOutBy, IsNotedRun, KeepsSheet}
use Rattle.cedar_authorizer.proofs.Distinct.{located_ids, picked_distinct, pair_ids, kept_whole}
use Rattle.cedar_authorizer.proofs.Runs.{run_more, run_ids}
use Rattle.cedar_model.proofs.Configured.{configured_by}

-- ---- the loop

-- the policies before those that are left are noted
pub record IsNotedSoFar (mode : ErrorHandling) (s : Setting) (calls : StoredCalls) (levels : ℕ) (all : List Policy) (sheet : Sheet) (left : List Policy) : Type 0 where
  pub done : List Policy
  pub run : IsNotedRun mode s calls levels done sheet
  pub same : all ≡ done ++ left

module _ (mode : ErrorHandling) (s : Setting) (calls : StoredCalls) (levels : ℕ) where
  pub noted_none : (all : List Policy) (sheet : Sheet) (left : List Policy) → sheet_view sheet ≡ nothing_noted → all ≡ left → IsNotedSoFar mode s calls levels all sheet left
  noted_none all sheet left e same = record {
    done = [];
    run = record { located = []; errors = []; run = (refl, refl); noted = e ∙ sym sorted_none };
    same = same;
  }

  row_for : PolicyView → Decided → Row
  row_for p d = record { id = p.id; effect = p.effect; annotations = p.annotations; reported = counted_report mode p.effect (reported_of d) }

  pub noted_run : (done : List Policy) (old new : Sheet) (p : PolicyView) (o : ConditionOutcome) → IsNotedRun mode s calls levels done old → ComesOutBy (λ a. Runs (with_slots s p.slots) calls levels (condition_term p) a) (outcome_view o) → sheet_view new ≡ noted_also (sheet_view old) (placed_row mode p o) (error_of (outcome_view o)) → IsNotedRun mode s calls levels (done ++ decides_as p ∷ []) new
  unfolding row_for
  noted_run done old new p o before (a, runs, found, out) placed =
      let ls = before.located in
      let errors = before.errors in
      let l = placed_row mode p o in
      let e = error_of (outcome_view o) in
      let more : RunOf mode s calls levels (done ++ decides_as p ∷ []) (rows_in ls ++ row_for p (decided a) ∷ []) (errors ++ with_error p.id (error_of (decided a)) []) =
      run_more mode s calls levels done (rows_in ls) errors (decides_as p) a before.run runs found in
      let noted : RunOf mode s calls levels (done ++ decides_as p ∷ []) (rows_in ls ++ l.row ∷ []) (errors ++ with_error p.id e []) =
      subst (λ (d : Decided). RunOf mode s calls levels (done ++ decides_as p ∷ []) (rows_in ls ++ row_for p d ∷ []) (errors ++ with_error p.id (error_of d) [])) (sym out) more in
      record {
        located = ls ++ l ∷ [];
        errors = errors ++ with_error p.id e [];
        run = subst (λ (rows : List Row). RunOf mode s calls levels (done ++ decides_as p ∷ []) rows (errors ++ with_error p.id e [])) (sym (map-append (λ (x : Located). x.row) ls (l ∷ []))) noted;
        noted = placed ∙ ap (λ (n : Noted). noted_also n l e) before.noted ∙ sym (sorted_more ls errors l e);
      }

  pub noted_more : (all : List Policy) (old new : Sheet) (p : PolicyView) (o : ConditionOutcome) (rest left : List Policy) → left ≡ decides_as p ∷ rest → IsNotedSoFar mode s calls levels all old left → ComesOutBy (λ a. Runs (with_slots s p.slots) calls levels (condition_term p) a) (outcome_view o) → sheet_view new ≡ noted_also (sheet_view old) (placed_row mode p o) (error_of (outcome_view o)) → IsNotedSoFar mode s calls levels all new rest
  noted_more all old new p o rest left e before out placed = record {
    done = before.done ++ decides_as p ∷ [];
    run = noted_run before.done old new p o before.run out placed;
    same = before.same ∙ ap (λ (l : List Policy). before.done ++ l) e ∙ sym (append_assoc before.done (decides_as p ∷ []) rest);
  }

  pub noted_all : (all : List Policy) (sheet : Sheet) (left : List Policy) → left ≡ [] → IsNotedSoFar mode s calls levels all sheet left → IsNotedRun mode s calls levels all sheet
  noted_all all sheet left e before =
      subst (λ (l : List Policy). IsNotedRun mode s calls levels l sheet) (sym (before.same ∙ ap (λ (l : List Policy). before.done ++ l) e ∙ append-nil before.done)) before.run

-- a run in a setting, by functions and with levels that are the same
pub noted_alike : (mode : ErrorHandling) (s z : Setting) (calls answers : StoredCalls) (levels limit : ℕ) (ps : List Policy) (sheet : Sheet) → s ≡ z → calls ≡ answers → levels ≡ limit → IsNotedRun mode s calls levels ps sheet → IsNotedRun mode z answers limit ps sheet
noted_alike mode s z calls answers levels limit ps sheet e f n run =
    subst (λ q. IsNotedRun mode z answers q ps sheet) n (subst (λ q. IsNotedRun mode z q levels ps sheet) f (subst (λ q. IsNotedRun mode q calls levels ps sheet) e run))

-- ---- the response

ids_of_entries : {V : Type 0} (f : PolicyID × V → Located) → ((e : PolicyID × V) → (f e).row.id ≡ policy_id_text e.0) → (es : List (PolicyID × V)) → pair_ids es ≡ located_ids (map f es)
ids_of_entries f h [] = refl
ids_of_entries f h (e ∷ es) = λ i. sym (h e) i ∷ ids_of_entries f h es i

rows_located : (ls : List Located) → located_ids ls ≡ ids (rows_in ls)
rows_located [] = refl
rows_located (l ∷ ls) = ap (λ (ts : List Text). l.row.id ∷ ts) (rows_located ls)

module _ (ls : List Located) (distinct : first_repeated (located_ids ls) ≡ None) where
  pub whole : {V : Type 0} (effect : Effect) (such : Reported → Bool) (f : PolicyID × V → Located) → ((e : PolicyID × V) → (f e).row.id ≡ policy_id_text e.0) → (items entries : List (PolicyID × V)) → entries ≡ kept items → map f items ≡ located_of effect such ls → entries ≡ items
  whole effect such f h items entries keeps on =
      keeps ∙ kept_whole items (ap first_repeated (ids_of_entries f h items ∙ ap located_ids on) ∙ picked_distinct effect such ls distinct)

  held : {V : Type 0} (effect : Effect) (such : Reported → Bool) (f : PolicyID × V → Located) → ((e : PolicyID × V) → (f e).row.id ≡ policy_id_text e.0) → (items entries : List (PolicyID × V)) → entries ≡ kept items → map f items ≡ located_of effect such ls → rows_in (map f entries) ≡ rows_of effect such (rows_in ls)
  held effect such f h items entries keeps on =
      ap (λ (es : List (PolicyID × _)). rows_in (map f es)) (whole effect such f h items entries keeps on)
      ∙ ap rows_in on
      ∙ sym (rows_of_located effect such ls)

  pub holds_rows : (sheet : Sheet) (r : PartialResponse) (errors : List (Text × Failure)) → KeepsSheet sheet r → sheet_view sheet ≡ sorted ls errors → HoldsRows (rows_in ls) r
  holds_rows sheet r errors k on = record {
    true_permits = held permit is_true (located_true permit) (λ e. refl) _ _ k.true_permits (ap (λ (n : Noted). n.true_permits) on);
    false_permits = held permit is_false (located_false permit) (λ e. refl) _ _ k.false_permits (ap (λ (n : Noted). n.false_permits) on);
    residual_permits = held permit is_residual (located_residual permit) (λ e. refl) _ _ k.residual_permits (ap (λ (n : Noted). n.residual_permits) on);
    true_forbids = held forbid is_true (located_true forbid) (λ e. refl) _ _ k.true_forbids (ap (λ (n : Noted). n.true_forbids) on);
    false_forbids = held forbid is_false (located_false forbid) (λ e. refl) _ _ k.false_forbids (ap (λ (n : Noted). n.false_forbids) on);
    residual_forbids = held forbid is_residual (located_residual forbid) (λ e. refl) _ _ k.residual_forbids (ap (λ (n : Noted). n.residual_forbids) on);
  }

ids_deciding : (ps : List PolicyView) → map (λ (p : Policy). p.id) (map decides_as ps) ≡ policy_ids ps
ids_deciding [] = refl
ids_deciding (p ∷ ps) = ap (λ (ts : List Text). p.id ∷ ts) (ids_deciding ps)

-- no two policies of a set have one id
pub set_ids_apart : (policies : PolicySet) → first_repeated (map (λ (p : Policy). p.id) (considered policies)) ≡ None
set_ids_apart policies = ap first_repeated (ids_deciding (policies_view policies)) ∙ policies.distinct

-- what a response keeps of a run on a sheet is that run, where no two policies have one id
pub is_run_of : (mode : ErrorHandling) (s : Setting) (calls : StoredCalls) (levels : ℕ) (ps : List Policy) (sheet : Sheet) (r : PartialResponse) → first_repeated (map (λ (p : Policy). p.id) ps) ≡ None → IsNotedRun mode s calls levels ps sheet → mode_of r ≡ mode → KeepsSheet sheet r → IsRun (configured_by calls mode s levels) s ps r
is_run_of mode s calls levels ps sheet r distinct on is_in k =
    let ls = on.located in
    let apart : first_repeated (located_ids ls) ≡ None =
    ap first_repeated (rows_located ls ∙ run_ids mode s calls levels ps (rows_in ls) on.errors on.run) ∙ distinct in
    let same : errors_view r.errors.items ≡ on.errors = ap errors_view k.errors ∙ ap (λ (n : Noted). n.errors) on.noted in
    record {
      mode_is = is_in;
      rows = rows_in ls;
      run = subst (RunOf mode s calls levels ps (rows_in ls)) (sym same) on.run;
      held = holds_rows ls apart sheet r on.errors k on.noted;
    }

-- of the policies of a set it is
pub is_run : (mode : ErrorHandling) (s : Setting) (calls : StoredCalls) (levels : ℕ) (policies : PolicySet) (sheet : Sheet) (r : PartialResponse) → IsNotedRun mode s calls levels (considered policies) sheet → mode_of r ≡ mode → KeepsSheet sheet r → IsRun (configured_by calls mode s levels) s (considered policies) r
is_run mode s calls levels policies sheet r on is_in k =
    is_run_of mode s calls levels (considered policies) sheet r (set_ids_apart policies) on is_in k

-- the residual policies of the run of a set are those that are on the sheet
module _ (mode : ErrorHandling) (s : Setting) (calls : StoredCalls) (levels : ℕ) (policies : PolicySet) (sheet : Sheet) (r : PartialResponse) (on : IsNotedRun mode s calls levels (considered policies) sheet) (k : KeepsSheet sheet r) where
  apart : first_repeated (located_ids on.located) ≡ None
  apart =
      ap first_repeated (rows_located on.located ∙ run_ids mode s calls levels (considered policies) (rows_in on.located) on.errors on.run ∙ ids_deciding (policies_view policies)) ∙ policies.distinct

  pub residual_permits_are : r.residual_permits.entries ≡ sheet.residual_permits.items
  residual_permits_are = whole on.located apart permit is_residual (located_residual permit) (λ e. refl) _ _ k.residual_permits (ap (λ (n : Noted). n.residual_permits) on.noted)

  pub residual_forbids_are : r.residual_forbids.entries ≡ sheet.residual_forbids.items
  residual_forbids_are = whole on.located apart forbid is_residual (located_residual forbid) (λ e. refl) _ _ k.residual_forbids (ap (λ (n : Noted). n.residual_forbids) on.noted)

-- what follows of a response that is in the mode and keeps a sheet
pub if_in_mode : (mode : ErrorHandling) {E : Type 0} (x : Result PartialResponse E) (sheet : Sheet) {P : PartialResponse → Type 0}
    → ((r : PartialResponse) → mode_of r ≡ mode → KeepsSheet sheet r → P r)
    → IfOk x (λ r. mode_of r ≡ mode) → IfOk x (λ r. KeepsSheet sheet r) → IfOk x P
if_in_mode mode (Ok r) sheet f m k = f r m k
if_in_mode mode (Err e) sheet f m k = tt
