-- A response that is made concrete.
use Rattle.std.proofs.Common.{◌≡◌, Bool, true, false, cond, not, ◌&&◌, ◌||◌, List, [], ◌∷◌, ◌++◌, map, Option, refl, sym, ap, ◌∙◌, subst, append_assoc}
use Rattle.std.proofs.lemmas.List.{append-nil, map-append}
use Rattle.std.specs.Prelude.{Result, Ok, IfOk, OnOk}
use Rattle.std.proofs.Math.Bool.{or-false}
use Rattle.cedar_model.specs.Terms.{Text}
use Rattle.cedar_model.specs.Outcomes.{has_text}
use Rattle.cedar_model.specs.Failures.{Failure, residual_is_left}
use Rattle.cedar_model.specs.Policies as model
use Rattle.cedar_model.specs.Policies.{Effect, permit, forbid, allow, deny, ErrorHandling, skip, forbid_on_error}
use Rattle.cedar_model.specs.Responses.{Row, clause_of}
use Rattle.cedar_model.specs.Reports.{some_row, ids, trues, residuals, residual_error, concretized}
use Rattle.cedar_model.specs.Reports.{concrete_decision, concrete_reasons, HaveNoResidual}
use Rattle.cedar_model.proofs.Concrete.{concrete_is_defined}
use Rattle.cedar_names.specs.declared.names.Loc.{Loc}
use Rattle.cedar_expressions.specs.View.{view, expr_loc}
use Rattle.cedar_layers.specs.Policies.{policy_id_text}
use Rattle.cedar_authorizer.specs.declared.responses.partial_response.PartialResponse.{PartialResponse}
use Rattle.cedar_decisions.specs.Decisions.{forbids}
use Rattle.cedar_authorizer.specs.responses.Readers.{entry_ids}
use Rattle.cedar_authorizer.specs.responses.Rows.{ResidualEntry, residual_rows, rows_in, locs_in, mode_of, located_view}
use Rattle.cedar_authorizer.specs.responses.Rows.{rows_view}
use Rattle.cedar_authorizer.specs.responses.Concrete.{id_texts, reason_texts, errors_left, places_left, places_with}
use Rattle.cedar_authorizer.specs.responses.Promises.{IsDecidedByPolicies}
use Rattle.cedar_authorizer.proofs.Naming.{ids_of_trues, ids_of_residuals, ids_append}
use Rattle.cedar_authorizer.proofs.Rows.{residual_permits, residual_forbids, trues_permit, trues_forbid}
use Rattle.cedar_authorizer.proofs.Rows.{residuals_permit, residuals_forbid}

-- what holds of an answer, where it is this one
pub of_ok : {A E : Type 0} (P : A → Type 0) (r : Result A E) (x : A) → r ≡ Ok x → IfOk r P → P x
of_ok P r x is h = subst (λ y. IfOk y P) is h

pub on_ok : {A E P : Type 0} (r : Result A E) (x : A) → r ≡ Ok x → OnOk r P → P
on_ok {P = P} r x is h = subst (λ y. OnOk y P) is h

-- what comes of a list to which some are added, then others, and then a list
pub left_then : {A B : Type 0} (f : A → B) (none first both added all : List A) (forbids permits these : List B) → none ≡ [] → map f first ≡ map f none ++ forbids → map f both ≡ map f first ++ these → these ≡ permits → all ≡ both ++ added → map f all ≡ forbids ++ (permits ++ map f added)
left_then f none first both added all forbids permits these hn h1 h2 ht ha =
    ap (map f) ha ∙ map-append f both added
    ∙ ap (λ xs. xs ++ map f added) (h2 ∙ (λ i. (h1 ∙ ap (λ xs. map f xs ++ forbids) hn) i ++ ht i))
    ∙ append_assoc forbids permits (map f added)

errors_of_residuals : (e : Effect) (es : List ResidualEntry) → map residual_error (rows_in (residual_rows e es)) ≡ errors_left es
unfolding clause_of
errors_of_residuals e [] = refl
errors_of_residuals e (x ∷ xs) =
    ap (λ ts. (policy_id_text x.0, residual_is_left (view x.1.0.value)) ∷ ts) (errors_of_residuals e xs)

locs_of_residuals : (e : Effect) (es : List ResidualEntry) → locs_in (residual_rows e es) ≡ places_left es
locs_of_residuals e [] = refl
locs_of_residuals e (x ∷ xs) = ap (λ ls. expr_loc x.1.0.value ∷ ls) (locs_of_residuals e xs)

ids_if : (b : Bool) (xs ys : List Row) (ts us : List Text) → ids xs ≡ ts → ids ys ≡ us → ids (cond b xs ys) ≡ cond b ts us
ids_if true xs ys ts us h g = h
ids_if false xs ys ts us h g = g

module _ (r : PartialResponse) where
  abbrev shown : List Row
  shown = rows_view r

  reason_ids : (mode : ErrorHandling) (m : Bool) → m ≡ (some_row (trues forbid shown) || some_row (residuals forbid shown))
      → reason_texts mode m (id_texts r.satisfied_permits.entries) (id_texts r.satisfied_forbids.entries) (entry_ids r.residual_forbids.entries)
      ≡ ids (concrete_reasons mode shown)
  reason_ids skip m h =
      by m ∙ ap (λ b. ids (cond b (trues forbid shown) (trues permit shown))) h
    where
      by : (b : Bool) → reason_texts skip b (id_texts r.satisfied_permits.entries) (id_texts r.satisfied_forbids.entries) (entry_ids r.residual_forbids.entries)
          ≡ ids (cond b (trues forbid shown) (trues permit shown))
      by true = sym (ap ids (trues_forbid r) ∙ ids_of_trues forbid r.satisfied_forbids.entries)
      by false = sym (ap ids (trues_permit r) ∙ ids_of_trues permit r.satisfied_permits.entries)
  reason_ids forbid_on_error m h =
      by m ∙ ap (λ b. ids (cond b (trues forbid shown ++ residuals forbid shown) (trues permit shown))) h
    where
      by : (b : Bool) → reason_texts forbid_on_error b (id_texts r.satisfied_permits.entries) (id_texts r.satisfied_forbids.entries) (entry_ids r.residual_forbids.entries)
          ≡ ids (cond b (trues forbid shown ++ residuals forbid shown) (trues permit shown))
      by true =
          sym (ids_append (trues forbid shown) (residuals forbid shown)
          ∙ (λ i. ids (trues_forbid r i) ++ ids (residuals_forbid r i))
          ∙ (λ i. ids_of_trues forbid r.satisfied_forbids.entries i ++ ids_of_residuals forbid r.residual_forbids.entries i))
      by false = sym (ap ids (trues_permit r) ∙ ids_of_trues permit r.satisfied_permits.entries)

  left_errors : (recorded : List (Text × Failure)) → errors_left r.residual_forbids.entries ++ (errors_left r.residual_permits.entries ++ recorded)
      ≡ map residual_error (residuals forbid (rows_view r)) ++ (map residual_error (residuals permit (rows_view r)) ++ recorded)
  left_errors recorded =
      sym ((λ i. map residual_error (residuals_forbid r i) ++ (map residual_error (residuals_permit r i) ++ recorded))
      ∙ (λ i. errors_of_residuals forbid r.residual_forbids.entries i ++ (errors_of_residuals permit r.residual_permits.entries i ++ recorded)))

  pub concrete : (m : Bool) (d : model.Decision) (reason : Text → Bool) (recorded errors : List (Text × Failure))
      → m ≡ (some_row (trues forbid shown) || some_row (residuals forbid shown))
      → d ≡ concrete_decision (mode_of r) shown
      → reason ≡ (λ t. has_text t (reason_texts (mode_of r) m (id_texts r.satisfied_permits.entries) (id_texts r.satisfied_forbids.entries) (entry_ids r.residual_forbids.entries)))
      → errors ≡ errors_left r.residual_forbids.entries ++ (errors_left r.residual_permits.entries ++ recorded)
      → record { decided_as = d; is_reason = reason; errors = errors } ≡ concretized (mode_of r) shown recorded
  concrete m d reason recorded errors hm hd hr he =
      let b : reason ≡ (λ (t : Text). has_text t (ids (concrete_reasons (mode_of r) shown))) =
      hr ∙ (λ i t. has_text t (reason_ids (mode_of r) m hm i)) in
      let c = he ∙ left_errors recorded in
      λ i. record { decided_as = hd i; is_reason = b i; errors = c i }

  pub concrete_at : (recorded places : List (Option Loc)) → places ≡ places_left r.residual_forbids.entries ++ (places_left r.residual_permits.entries ++ recorded)
      → places ≡ places_with (located_view r) recorded
  concrete_at recorded places h =
      h ∙ sym ((λ i. locs_in (residual_forbids r i) ++ (locs_in (residual_permits r i) ++ recorded))
      ∙ (λ i. locs_of_residuals forbid r.residual_forbids.entries i ++ (locs_of_residuals permit r.residual_permits.entries i ++ recorded)))

-- ---- where no residual is left

none_here : (rows : List Row) → rows ≡ [] → some_row rows ≡ false
unfolding some_row
none_here rows h = ap some_row h

-- both ways to handle errors decide alike
decision_alike : (mode : ErrorHandling) (rows : List Row) → HaveNoResidual rows → concrete_decision skip rows ≡ concrete_decision mode rows
decision_alike skip rows none = refl
decision_alike forbid_on_error rows none =
    let f = some_row (trues forbid rows) in
    ap (λ b. cond (some_row (trues permit rows) && not b) allow deny)
    (sym (ap (λ b. f || b) (none_here (residuals forbid rows) none.1) ∙ or-false f))

-- for the same reasons
reasons_alike : (mode : ErrorHandling) (rows : List Row) → HaveNoResidual rows → concrete_reasons skip rows ≡ concrete_reasons mode rows
reasons_alike skip rows none = refl
reasons_alike forbid_on_error rows none =
    ap (λ rs. cond (some_row (trues forbid rows) || some_row (residuals forbid rows)) rs (trues permit rows))
    (sym (ap (λ rs. trues forbid rows ++ rs) none.1 ∙ append-nil (trues forbid rows)))

pub decided_by_policies : (own : ErrorHandling) (rows : List Row) (errors : List (Text × Failure)) → IsDecidedByPolicies rows (concretized own rows errors)
decided_by_policies own rows errors none mode X ans w ps stand =
    let h = concrete_is_defined mode X ans w ps rows stand none in (
      sym (decision_alike own rows none) ∙ decision_alike mode rows none ∙ h.0,
      λ t. ap (λ rs. has_text t (ids rs)) (sym (reasons_alike own rows none) ∙ reasons_alike mode rows none) ∙ h.1 t,
    )

-- the concrete decision by whether there are such rows
pub decided_concretely : (mode : ErrorHandling) (rows : List Row) (d : model.Decision) (p f g : Bool)
    → p ≡ some_row (trues permit rows) → f ≡ some_row (trues forbid rows) → g ≡ some_row (residuals forbid rows)
    → d ≡ cond (p && not (forbids mode f g)) allow deny → d ≡ concrete_decision mode rows
decided_concretely skip rows d p f g hp hf hg h = h ∙ (λ i. cond (hp i && not (hf i)) allow deny)
decided_concretely forbid_on_error rows d p f g hp hf hg h = h ∙ (λ i. cond (hp i && not (hf i || hg i)) allow deny)
