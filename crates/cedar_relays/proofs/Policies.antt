-- What is reported of a policy reads back as it was written.
use Rattle.std.proofs.Common.{◌≡◌, ℕ, zero, suc, ◌+◌, Bool, true, false, true≢false, cond, ◌||◌, List, [], ◌∷◌, map, Option, None, Ok, refl, sym, ap, ◌∙◌, codes}
use Rattle.std.specs.Prelude.{if◌then◌else◌}
use Rattle.json.specs.Json.{Json, string, array, no_items, item}
use Rattle.json.specs.Value.{items_of}
use Rattle.cedar_model.specs.Terms.{Text, Literal, bool_literal, Term, literal, variable, slot, unknown, if_then_else, both, either, unary, binary, call, get_attribute, has_attribute, extended_has, like, is_of_type, set_of, record_of}
use Rattle.cedar_model.specs.Agreement.{no_slots}
use Rattle.cedar_model.specs.Policies.{Effect, permit, forbid}
use Rattle.cedar_model.specs.Refusals.{first_repeated}
use Rattle.cedar_model.specs.Responses.{Row, Reported, reported_true, reported_false, reported_residual, truth, clause_of}
use Rattle.cedar_model.specs.Shapes.{has_unknown}
use Rattle.cedar_functions.specs.Functions.{Knowledge}
use Rattle.cedar_layers.specs.Policies.{PolicyView}
use Rattle.cedar_text_printer.specs.Policies.{effect_text}
use Rattle.cedar_json_writer.specs.Responses.{policy_of_row}
use Rattle.cedar_policy_json_reader.specs.Expressions.{Reading, expression_said}
use Rattle.cedar_policy_json_reader.specs.Paths.{at_key, at_index}
use Rattle.cedar_policy_json_reader.specs.Policies as policies
use Rattle.cedar_policy_json_reader.specs.Policies.{policy_said, policy_made, conditions_said, conditions_from, kind_of_said, joined, effect_said, annotations_said}
use Rattle.cedar_policy_json_reader.specs.Refusals as json
use Rattle.cedar_policy_json_writer.specs.Expressions.{expression_json}
use Rattle.cedar_policy_json_writer.specs.Policies.{policy_json, conditions_json, when_json, annotations_json}
use Rattle.cedar_policy_json_writer.specs.Scopes.{is_truth}
use Rattle.cedar_response_json.specs.Responses.{report_word, row_json, rows_json}
use Rattle.cedar_response_json_reader.specs.declared.errors.ResponseRefusal.TheVariants as reasons
use Rattle.cedar_response_json_reader.specs.declared.reports.Report.{Report}
use Rattle.cedar_response_json_reader.specs.declared.reports.Report.TheVariants as reports
use Rattle.cedar_response_json_reader.specs.Refusals.{Said, refused, under, before, both_said, made_of, and_then, of_policies}
use Rattle.cedar_response_json_reader.specs.Rows.{report_said, reported_by, row_of, fits, carried_on, row_said, rows_from, once, all_once, rows_said}
use Rattle.cedar_relays.specs.Travels.{AnnotationsReadBack, ReadsBack, ReportReadsBack, RowReadsBack, RowsReadBack}

-- ---- the condition

-- where any expression reads back, `false` does
pub false_reads : (fs : Knowledge) (n : ℕ) (t : Term) → ReadsBack fs n t → ReadsBack fs n (literal (bool_literal false))
unfolding expression_said
false_reads fs zero t h = absurd (cc)
false_reads fs (suc m) t h = refl

-- what holds an unknown is not `true`
not_truth : (t : Term) → has_unknown t ≡ true → is_truth t ≡ false
not_truth (literal l) h = absurd (true≢false (sym h))
not_truth (variable v) h = refl
not_truth (slot s) h = refl
not_truth (unknown n t) h = refl
not_truth (if_then_else c a b) h = refl
not_truth (both a b) h = refl
not_truth (either a b) h = refl
not_truth (unary op a) h = refl
not_truth (binary op a b) h = refl
not_truth (call f ts) h = refl
not_truth (get_attribute e a) h = refl
not_truth (has_attribute e a) h = refl
not_truth (extended_has e a others) h = refl
not_truth (like e p) h = refl
not_truth (is_of_type e t) h = refl
not_truth (set_of ts) h = refl
not_truth (record_of fs) h = refl

-- one condition, behind `when`
one_condition : (says : Reading) (t : Term) → says (expression_json no_slots t) ≡ Ok t → conditions_said says (array (item (when_json no_slots t) no_items)) ≡ Ok t
one_condition says t h =
    ap (λ (s : json.Said Term). json.made_of joined (json.before (json.under (at_index 0) (json.and_then (λ q. kind_of_said q.0 q.1) (json.both_said (Ok (codes "when")) (json.under (at_key (codes "body")) s)))) (Ok []))) h

-- no condition where it is `true`
condition : (says : Reading) (t : Term) → says (expression_json no_slots t) ≡ Ok t → is_truth t ≡ false → conditions_said says (array (items_of (cond (is_truth t) [] (when_json no_slots t ∷ [])))) ≡ Ok t
condition says t h apart =
    ap (λ (b : Bool). conditions_said says (array (items_of (cond b [] (when_json no_slots t ∷ []))))) apart ∙ one_condition says t h

-- ---- the policy

row : Text → Effect → List (Text × Text) → Reported → Row
row id e ps rep = record { id = id; effect = e; annotations = ps; reported = rep }

effect_back : (e : Effect) → effect_said (string (effect_text e)) ≡ Ok e
effect_back permit = refl
effect_back forbid = refl

module _ (fs : Knowledge) (n : ℕ) (falsity : ReadsBack fs n (literal (bool_literal false))) (id : Text) (e : Effect) where
  conditions_back : (ps : List (Text × Text)) (rep : Reported) → ReportReadsBack fs n rep → conditions_said (expression_said fs n) (conditions_json (policy_of_row (record { id = id; effect = e; annotations = ps; reported = rep }))) ≡ Ok (clause_of rep)
  unfolding clause_of
  conditions_back ps reported_true h = refl
  conditions_back ps (reported_false b) h = condition (expression_said fs n) (literal (bool_literal false)) falsity refl
  conditions_back ps (reported_residual t) h = condition (expression_said fs n) t h.0 (not_truth t h.1)

  policy_back : (ps : List (Text × Text)) (rep : Reported) → AnnotationsReadBack ps → ReportReadsBack fs n rep
      → policy_said fs n id (policy_json (policy_of_row (record { id = id; effect = e; annotations = ps; reported = rep }))) ≡ Ok (policy_of_row (record { id = id; effect = e; annotations = ps; reported = rep }))
  policy_back [] rep known h =
      λ i. json.made_of (policy_made id) (json.both_said (json.under (at_key (codes "effect")) (effect_back e i))
      (json.both_said (json.both_said (Ok (truth, (truth, truth))) (json.under (at_key (codes "conditions")) (conditions_back [] rep h i))) (Ok [])))
  policy_back (a ∷ more) rep known h =
      λ i. json.made_of (policy_made id) (json.both_said (json.under (at_key (codes "effect")) (effect_back e i))
      (json.both_said (json.both_said (Ok (truth, (truth, truth))) (json.under (at_key (codes "conditions")) (conditions_back (a ∷ more) rep h i)))
      (json.under (at_key (codes "annotations")) (known i))))

-- ---- what is reported

report_of : Reported → Report
report_of reported_true = reports.Satisfied
report_of (reported_false false) = reports.Unsatisfied
report_of (reported_false true) = reports.Erring
report_of (reported_residual t) = reports.Residual

report_back : (rep : Reported) → report_said (string (report_word rep)) ≡ Ok (report_of rep)
unfolding report_of
report_back reported_true = refl
report_back (reported_false false) = refl
report_back (reported_false true) = refl
report_back (reported_residual t) = refl

reported_back : (rep : Reported) → reported_by (report_of rep) (clause_of rep) ≡ rep
unfolding report_of clause_of
reported_back reported_true = refl
reported_back (reported_false false) = refl
reported_back (reported_false true) = refl
reported_back (reported_residual t) = refl

module _ (fs : Knowledge) (n : ℕ) where
  fits_back : (rep : Reported) → ReportReadsBack fs n rep → fits (report_of rep) (clause_of rep) ≡ true
  unfolding report_of clause_of
  fits_back reported_true h = refl
  fits_back (reported_false false) h = refl
  fits_back (reported_false true) h = refl
  fits_back (reported_residual t) h = h.1

  carried_back : (r : Row) → ReportReadsBack fs n r.reported → carried_on (report_of r.reported, policy_of_row r) ≡ Ok (report_of r.reported, policy_of_row r)
  carried_back r h =
      ap (λ (b : Bool). if b then Ok (report_of r.reported, policy_of_row r) else refused reasons.NotAsReported) (fits_back r.reported h)

  row_back : ReadsBack fs n (literal (bool_literal false)) → (r : Row) → RowReadsBack fs n r → row_said fs n (row_json r) ≡ Ok r
  row_back falsity r h =
      (λ i. made_of row_of (and_then (λ p. under (at_key (codes "policy")) (carried_on p))
      (both_said (under (at_key (codes "reported")) (report_back r.reported i))
      (under (at_key (codes "policy")) (of_policies (policy_back fs n falsity r.id r.effect r.annotations r.reported h.0 h.1 i))))))
      ∙ ap (λ (s : Said (Report × PolicyView)). made_of row_of (under (at_key (codes "policy")) s)) (carried_back r h.1)
      ∙ ap (λ (rep : Reported). Ok (record { id = r.id; effect = r.effect; annotations = r.annotations; reported = rep })) (reported_back r.reported)

  rows_back : ReadsBack fs n (literal (bool_literal false)) → (k : ℕ) (rs : List Row) → RowsReadBack fs n rs → rows_from fs n k (items_of (map row_json rs)) ≡ Ok rs
  rows_back falsity k [] h = refl
  rows_back falsity k (r ∷ rs) h = λ i. before (under (at_index k) (row_back falsity r h.0 i)) (rows_back falsity (k + 1) rs h.1 i)

  pub all_back : ReadsBack fs n (literal (bool_literal false)) → (rs : List Row) → RowsReadBack fs n rs → first_repeated (map (λ x. x.id) rs) ≡ None → rows_said fs n (rows_json rs) ≡ Ok rs
  all_back falsity rs h apart =
      ap (λ (s : Said (List Row)). and_then all_once s) (rows_back falsity 0 rs h)
      ∙ ap (λ (o : Option Text). once o rs) apart
