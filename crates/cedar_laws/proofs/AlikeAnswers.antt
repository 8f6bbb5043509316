-- Runs of the same policies are alike, since alike answers decide alike.
use Rattle.std.specs.Prelude.{◌≡◌, ℕ, Bool, true, false, List, [], ◌∷◌, map, Option, Some, None, option_map}
use Rattle.std.proofs.Common.{refl, sym, ap, ◌∙◌}
use Rattle.cedar_model.specs.Terms.{Text, bool_type}
use Rattle.cedar_model.specs.Values.{AbstractValue, Represented, abstract_value}
use Rattle.cedar_model.specs.Outcomes.{bool_of}
use Rattle.cedar_model.specs.Failures.{Failure, failure_kind, value, residual, Answer, answers, fails, wrong_type}
use Rattle.cedar_model.specs.Settings.{Setting}
use Rattle.cedar_model.specs.Rules.{StoredCalls}
use Rattle.cedar_model.specs.Alike.{AreAlike, AreFunctional}
use Rattle.cedar_model.specs.Policies.{Effect, permit, forbid, Policy, ErrorHandling, skip, forbid_on_error}
use Rattle.cedar_model.specs.Responses.{Reported, reported_true, reported_false, reported_residual, Row, Decided}
use Rattle.cedar_model.specs.Responses.{errs_with, decided_bool, decided, reported_of, error_of}
use Rattle.cedar_model.specs.Responses.{counted_report, with_slots, with_error, row_of, RunOf}
use Rattle.cedar_model.specs.Authorizations.{failure_kinds}
use Rattle.cedar_model.proofs.Determined.{runs_determined}
use Rattle.cedar_laws.specs.AlikeRuns.{erased_report, erased_row, AreAlikeRuns}

-- ---- what alike answers decide

bool_same : (o : Option Bool) (v w : Represented) → abstract_value v ≡ abstract_value w → decided_bool o v ≡ decided_bool o w
unfolding decided_bool
bool_same None v w h = ap (λ (u : AbstractValue). errs_with (wrong_type bool_type [] u)) h
bool_same (Some b) v w h = refl

value_same : (v w : Represented) → abstract_value v ≡ abstract_value w → decided (answers (value v)) ≡ decided (answers (value w))
unfolding decided
value_same v w h =
    ap (λ (u : AbstractValue). decided_bool (bool_of u) v) h ∙ bool_same (bool_of (abstract_value w)) v w h

pub report_alike : (a b : Answer) → AreAlike a b → erased_report (reported_of (decided a)) ≡ erased_report (reported_of (decided b))
unfolding decided reported_of
report_alike (answers (value v)) (answers (value w)) h = ap (λ (d : Decided). erased_report (reported_of d)) (value_same v w h)
report_alike (answers (value v)) (answers (residual q)) h = absurd h
report_alike (answers (residual r)) (answers (value w)) h = absurd h
report_alike (answers (residual r)) (answers (residual q)) h = ap reported_residual h
report_alike (answers p) (fails f) h = absurd h
report_alike (fails e) (answers q) h = absurd h
report_alike (fails e) (fails f) h = refl

pub error_alike : (a b : Answer) → AreAlike a b → option_map failure_kind (error_of (decided a)) ≡ option_map failure_kind (error_of (decided b))
unfolding decided error_of
error_alike (answers (value v)) (answers (value w)) h = ap (λ (d : Decided). option_map failure_kind (error_of d)) (value_same v w h)
error_alike (answers (value v)) (answers (residual q)) h = absurd h
error_alike (answers (residual r)) (answers (value w)) h = absurd h
error_alike (answers (residual r)) (answers (residual q)) h = refl
error_alike (answers p) (fails f) h = absurd h
error_alike (fails e) (answers q) h = absurd h
error_alike (fails e) (fails f) h = ap Some h

-- ---- rows and errors

counted_erased : (mode : ErrorHandling) (e : Effect) (o : Reported) → erased_report (counted_report mode e o) ≡ counted_report mode e (erased_report o)
unfolding counted_report
counted_erased skip e o = refl
counted_erased forbid_on_error permit o = refl
counted_erased forbid_on_error forbid reported_true = refl
counted_erased forbid_on_error forbid (reported_false true) = refl
counted_erased forbid_on_error forbid (reported_false false) = refl
counted_erased forbid_on_error forbid (reported_residual t) = refl

abbrev reporting : Policy → Reported → Row
reporting p o = record { id = p.id; effect = p.effect; annotations = p.annotations; reported = o }

pub row_alike : (mode : ErrorHandling) (p : Policy) (a b : Answer) → AreAlike a b → erased_row (row_of mode p a) ≡ erased_row (row_of mode p b)
row_alike mode p a b h =
    let e : erased_report (counted_report mode p.effect (reported_of (decided a))) ≡ erased_report (counted_report mode p.effect (reported_of (decided b)))
    = counted_erased mode p.effect (reported_of (decided a))
    ∙ ap (counted_report mode p.effect) (report_alike a b h)
    ∙ sym (counted_erased mode p.effect (reported_of (decided b))) in
    ap (reporting p) e

pub kinds_with : (id : Text) (o : Option Failure) (es : List (Text × Failure)) → failure_kinds (with_error id o es) ≡ with_error id (option_map failure_kind o) (failure_kinds es)
unfolding with_error
kinds_with id None es = refl
kinds_with id (Some e) es = refl

module _ (calls : StoredCalls) (functional : AreFunctional calls) (mode : ErrorHandling) (s : Setting) (levels : ℕ) where
  pub runs_alike : (ps : List Policy) (rows others : List Row) (errors other_errors : List (Text × Failure)) → RunOf mode s calls levels ps rows errors
      → RunOf mode s calls levels ps others other_errors → AreAlikeRuns rows others errors other_errors
  runs_alike [] rows others errors other_errors (e, f) (g, h) = record {
    rows_alike = ap (map erased_row) (e ∙ sym g);
    kinds_same = ap failure_kinds (f ∙ sym h);
  }
  runs_alike (p ∷ ps) rows others errors other_errors (a, rest, later, m, found, j, e, f) (b, rest', later', m', found', j', e', f') =
      let k = runs_alike ps rest rest' later later' j j' in
      let z : AreAlike a b = runs_determined (with_slots s p.slots) calls functional levels p.condition a b m m' in
      let row : erased_row (row_of mode p a) ≡ erased_row (row_of mode p b) = row_alike mode p a b z in
      let kind : option_map failure_kind (error_of (decided a)) ≡ option_map failure_kind (error_of (decided b)) = error_alike a b z in
      record {
        rows_alike = ap (map erased_row) e ∙ (λ i. row i ∷ k.rows_alike i) ∙ sym (ap (map erased_row) e');
        kinds_same = ap failure_kinds f ∙ kinds_with p.id (error_of (decided a)) later
            ∙ (λ i. with_error p.id (kind i) (k.kinds_same i))
            ∙ sym (kinds_with p.id (error_of (decided b)) later') ∙ sym (ap failure_kinds f');
      }
