-- A world that completes a residual context and a map completes the context that is answered: restricted expressions read
-- no store, so that it is enough to look at a world that has none.
use Rattle.std.proofs.Common.{◌≡◌, ◌≢◌, ◌==◌, ℕ, Bool, true, false, ◌&&◌, cond, length, Option, None, Some, Result, Ok}
use Rattle.std.proofs.Common.{Err, refl, sym, ap, ◌∙◌}
use Rattle.std.proofs.lemmas.Bool.{and_parts}
use Rattle.cedar_model.specs.Terms.{Text, EntityName, ValueType, Term, literal, variable, slot, unknown, if_then_else}
use Rattle.cedar_model.specs.Terms.{both, either, unary, binary, call, get_attribute, has_attribute, extended_has, like}
use Rattle.cedar_model.specs.Terms.{is_of_type, set_of, record_of, Terms, no_terms, one_term, Fields, no_fields}
use Rattle.cedar_model.specs.Terms.{one_field}
use Rattle.cedar_model.specs.Values.{AbstractValue, set_value, record_value, AbstractFields}
use Rattle.cedar_model.specs.Sets.{abstract_set}
use Rattle.cedar_model.specs.Shapes.{is_restricted, are_restricted, are_restricted_at}
use Rattle.cedar_model.specs.Outcomes.{ErrorKind, Outcome, gives, errs, wrong_number_of_arguments}
use Rattle.cedar_model.specs.World.{WorldEntity, World, FunctionAnswer, function_gives, function_errs, function_asks}
use Rattle.cedar_model.specs.World.{Extensions, Functions}
use Rattle.cedar_model.specs.Meaning.{meaning, meanings, field_meanings, function_meaning, call_meaning, and_then_all}
use Rattle.cedar_model.specs.Meaning.{value_then, field_then}
use Rattle.cedar_model.specs.Failures.{PartialValue, answers, fails, out_of_memory}
use Rattle.cedar_model.specs.Settings.{known_entry, residual_context, Setting}
use Rattle.cedar_model.specs.Settings.{shallow, found_in, context_value}
use Rattle.cedar_model.specs.Rules.{StoredCalls, Meets}
use Rattle.cedar_model.specs.Agreement.{outcome_value, HasType, FitsFunction, FitEachAt}
use Rattle.cedar_model.specs.Agreement.{no_slots}
use Rattle.cedar_model.specs.Agreement.{IsCompletion, StandsFor}
use Rattle.cedar_model.specs.Chains.{Mapping, substituted_at}
use Rattle.cedar_model.proofs.Completions.{substituted_at_mean, substituted_at_fit}
use Rattle.cedar_model.proofs.Soundness.{sound_stands, runs_sound}
use Rattle.cedar_model.proofs.Throughout.{each_at_weaker}
use Rattle.cedar_errors.specs.declared.evaluator.err.EvaluationError.{EvaluationError}
use Rattle.cedar_restricted.specs.Evaluations.{IsBare, IsAnswerWithin}
use Rattle.cedar_requests.specs.declared.context.Context.{Context}
use Rattle.cedar_requests.specs.declared.context.pairs.ContextPairs.{ContextPairs}
use Rattle.cedar_requests.specs.declared.context.pairs.ContextPairs.TheVariants as kinds
use Rattle.cedar_requests.specs.declared.context.pairs.ResidualPairs.{ResidualPairs}
use Rattle.cedar_requests.specs.Contexts.{context_part_value, context_pairs_view, residual_fields}
use Rattle.cedar_requests.specs.Substitutions.{context_answer, CompletesContext, KeepsCompletions}
use Rattle.cedar_model.proofs.Injections.{some_inj, none_is_not_some, answers_is_not_fails, gives_inj, record_inj}

abbrev Stores : Type 0
Stores = EntityName → Option WorldEntity

-- the world with this in its store
abbrev with_store : World → Stores → World
with_store w s =
    record {
      principal_entity = w.principal_entity;
      action_entity = w.action_entity;
      resource_entity = w.resource_entity;
      context_record = w.context_record;
      store = s;
      sigma = w.sigma;
    }

abbrev nothing_stored : Stores
nothing_stored e = None

-- ---- restricted expressions read no store

module _ (x : Extensions) (ans : Functions) (w : World) (s z : Stores) where
  same_function : (a : FunctionAnswer) → function_meaning (with_store w s) a ≡ function_meaning (with_store w z) a
  unfolding function_meaning
  same_function (function_gives v) = refl
  same_function (function_errs e) = refl
  same_function (function_asks n t) = refl

  same_call : (o : Option ℕ) (a : FunctionAnswer) (n : ℕ) → call_meaning o a (with_store w s) n
      ≡ call_meaning o a (with_store w z) n
  unfolding call_meaning
  same_call None a n = refl
  same_call (Some m) a n = ap (λ o. cond (n == m) o (errs wrong_number_of_arguments)) (same_function a)

  mutual
    unfolding meaning

    same_meaning : (t : Term) → is_restricted t ≡ true → meaning x ans (with_store w s) no_slots t
        ≡ meaning x ans (with_store w z) no_slots t
    same_meaning (literal l) e = refl
    same_meaning (variable v) e = absurd (cc)
    same_meaning (slot i) e = absurd (cc)
    same_meaning (unknown n t) e = refl
    same_meaning (if_then_else c a b) e = absurd (cc)
    same_meaning (both a b) e = absurd (cc)
    same_meaning (either a b) e = absurd (cc)
    same_meaning (unary op a) e = absurd (cc)
    same_meaning (binary op a b) e = absurd (cc)
    same_meaning (call f ts) e =
        λ i. and_then_all (same_meanings ts e i) (λ vs. same_call (x.arity f) (ans f vs) (length vs) i)
    same_meaning (get_attribute a k) e = absurd (cc)
    same_meaning (has_attribute a k) e = absurd (cc)
    same_meaning (extended_has a k ks) e = absurd (cc)
    same_meaning (like a p) e = absurd (cc)
    same_meaning (is_of_type a t) e = absurd (cc)
    same_meaning (set_of ts) e = λ i. and_then_all (same_meanings ts e i) (λ vs. gives (set_value (abstract_set vs)))
    same_meaning (record_of fs) e = λ i. and_then_all (same_at fs e i) (λ gs. gives (record_value gs))

    same_meanings : (ts : Terms) → are_restricted ts ≡ true → meanings x ans (with_store w s) no_slots ts
        ≡ meanings x ans (with_store w z) no_slots ts
    same_meanings no_terms e = refl
    same_meanings (one_term t ts) e =
        λ i. value_then (same_meaning t (and_parts _ _ e).0 i) (same_meanings ts (and_parts _ _ e).1 i)

    same_at : (fs : Fields) → are_restricted_at fs ≡ true → field_meanings x ans (with_store w s) no_slots fs
        ≡ field_meanings x ans (with_store w z) no_slots fs
    same_at no_fields e = refl
    same_at (one_field k t fs) e =
        λ i. field_then k (same_meaning t (and_parts _ _ e).0 i) (same_at fs (and_parts _ _ e).1 i)

  same_type : (n : Text) (t : Option ValueType) → HasType (with_store w s) n t → HasType (with_store w z) n t
  same_type n None h = tt
  same_type n (Some t) h = h

  same_fit_at : (fs : Fields) → FitEachAt ans (with_store w s) fs → FitEachAt ans (with_store w z) fs
  same_fit_at =
      each_at_weaker (HasType (with_store w s)) (HasType (with_store w z)) (FitsFunction ans (with_store w s))
      (FitsFunction ans (with_store w z)) same_type (λ f h vs n t g. same_type n t (h vs n t g))

-- ---- a setting that the world with nothing stored completes

module _ (x : Extensions) (ans : Functions) (w : World) (fs : Fields) where
  -- the world's own request, in this context
  abbrev own : Setting
  own = record {
    request = record {
      principal_entry = known_entry w.principal_entity;
      action_entry = known_entry w.action_entity;
      resource_entry = known_entry w.resource_entity;
      context_part = residual_context fs;
    };
    store = record { entity = λ e. None; is_partial = false };
    map = λ n. None;
    slots = no_slots;
    extensions = x;
    resolution = shallow;
  }

  own_bare : IsBare x own
  own_bare = record { no_map = refl; has_extensions = refl }

  own_completes : field_meanings x ans (with_store w nothing_stored) no_slots fs ≡ Ok w.context_record
      → FitEachAt ans (with_store w nothing_stored) fs → IsCompletion ans (with_store w nothing_stored) own
  unfolding found_in
  own_completes agrees fits = record {
    agreement = record {
      request_agrees = record {
        principal_agrees = refl;
        action_agrees = refl;
        resource_agrees = refl;
        context_agrees = agrees;
      };
      store_agrees = λ e. refl;
      map_agrees = λ n v e. absurd (none_is_not_some e);
      context_fits = fits;
      store_fits = λ d y k p e. absurd (none_is_not_some e);
    };
    values = record {
      context_faithful = tt;
      store_faithful = λ d y k p e. absurd (none_is_not_some e);
      map_faithful = λ n v e. absurd (none_is_not_some e);
    };
  }

-- ---- the context that is answered

module _ (x : Extensions) (ans : Functions) (w : World) where
  abbrev W : World
  W = with_store w nothing_stored

  record_means : (r : Result AbstractFields ErrorKind) → r ≡ Ok w.context_record
      → and_then_all r (λ gs. gives (record_value gs)) ≡ gives (record_value w.context_record)
  unfolding and_then_all
  record_means r e = ap (λ y. and_then_all y (λ gs. gives (record_value gs))) e

  fields_mean : (r : Result AbstractFields ErrorKind)
      → outcome_value (and_then_all r (λ gs. gives (record_value gs))) ≡ Some (record_value w.context_record)
      → r ≡ Ok w.context_record
  unfolding and_then_all outcome_value
  fields_mean (Ok fs) e = ap Ok (record_inj (some_inj e))
  fields_mean (Err k) e = absurd (cc)

  -- what stands for the world's context is a context that it completes
  stands : (p : ContextPairs) (o : Outcome) → o ≡ gives (record_value w.context_record)
      → StandsFor x ans W (answers (context_value (context_pairs_view p))) o → CompletesContext x ans w (context_pairs_view p)
  unfolding context_value meaning outcome_value
  stands (kinds.Values m) o e h = record { agrees = record_inj (gives_inj (sym h.1 ∙ e)); fits = tt; faithful = h.0 }
  stands (kinds.Residual r) o e h = record {
    agrees =
        same_at x ans w w.store nothing_stored (residual_fields r) r.restricted
        ∙ fields_mean _ (h.1 ∙ ap outcome_value e);
    fits = same_fit_at x ans w nothing_stored w.store (residual_fields r) h.0;
    faithful = tt;
  }

module _ (x : Extensions) (calls : StoredCalls) (n : ℕ) (m : Mapping) (old : ResidualPairs) where
  abbrev fs : Fields
  fs = residual_fields old

  pub kept : (r : Result Context EvaluationError)
      → ((s : Setting) → IsBare x s
      → Meets (IsAnswerWithin s calls n (record_of (substituted_at m fs))) (context_answer r))
      → KeepsCompletions x calls m (residual_context fs) r
  unfolding meaning
  kept (Err e) h = λ ans w agree faithful done mapped. tt
  kept (Ok c) h = λ ans w agree faithful done mapped.
      let empty = with_store w nothing_stored in
      let fits = same_fit_at x ans w w.store nothing_stored fs done.fits in
      let means = same_at x ans w nothing_stored w.store fs old.restricted ∙ done.agrees in
      let z = own x ans w fs in
      let completes = own_completes x ans w fs means fits in
      let t = record_of (substituted_at m fs) in
      let a = answers (context_part_value c) in
      let fit = substituted_at_fit x ans empty m mapped.map_agrees mapped.mapped_values_are_faithful fs fits in
      let same = substituted_at_mean x ans empty m mapped.map_agrees mapped.mapped_values_are_faithful no_slots fs in
      stands x ans w c.pairs (meaning x ans empty no_slots t) (record_means x ans w _ (same ∙ means))
      (sound_stands ans calls agree empty z completes faithful t a
      (runs_sound ans calls agree empty z completes faithful n t a fit
      (h z (own_bare x ans w fs) (answers_is_not_fails (context_part_value c) out_of_memory)).runs))
