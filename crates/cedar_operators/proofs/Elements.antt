-- The elements on the right of `in`, one by one.
use Rattle.std.proofs.Common.{◌≡◌, ◌≢◌, Bool, true, false, ◌||◌, List, [], ◌∷◌, Option, Some, None, refl, sym, ap, ◌∙◌}
use Rattle.std.proofs.Math.Bool.{or-false, or_assoc}
use Rattle.cedar_model.specs.Terms.{EntityName}
use Rattle.cedar_model.specs.Values.{AbstractValue, AbstractValues, no_values, one_value, abstract_value, abstract_values}
use Rattle.cedar_model.specs.Sets.{represented_values_of}
use Rattle.cedar_model.specs.Outcomes.{entity_of}
use Rattle.cedar_model.specs.Meaning.{entities_of_set, add_entity, some_entity}
use Rattle.cedar_model.specs.Failures.{Failure, out_of_memory, any_entity, wrong_type, Answer, fails, answers_bool}
use Rattle.cedar_model.specs.Operators.{expecting, unless_entity, element_failure}
use Rattle.cedar_values.specs.Sound.{Placed, whats}
use Rattle.cedar_errors.specs.declared.evaluator.err.EvaluationError.{EvaluationError}
use Rattle.cedar_errors.specs.Failures.{failure_of}
use Rattle.cedar_errors.specs.Answers.{FailsWith}

-- the elements of a list
abbrev pub elements_in : List Placed → AbstractValues
elements_in ps = abstract_values (represented_values_of (whats ps))

-- whether the test holds of one of the elements, or held of one before them
abbrev pub answer_from : Bool → (EntityName → Bool) → Failure → AbstractValues → Answer
answer_from before test failure vs =
    expecting (entities_of_set vs) (element_failure vs failure) (λ es. answers_bool (before || some_entity test es))

module _ (test : EntityName → Bool) (failure : Failure) where
  abbrev From : Bool → AbstractValues → Answer
  From b vs = answer_from b test failure vs

  -- an element that is an entity is tested
  pub tested : (b : Bool) (v : AbstractValue) (vs : AbstractValues) (e : EntityName) → entity_of v ≡ Some e → From b (one_value v vs) ≡ From (b || test e) vs
  unfolding expecting entities_of_set element_failure unless_entity add_entity some_entity
  tested b v vs e is =
      ap (λ o. expecting (add_entity o (entities_of_set vs)) (unless_entity o (wrong_type any_entity [] v) (element_failure vs failure)) (λ es. answers_bool (b || some_entity test es))) is ∙ rest (entities_of_set vs)
    where
      rest : (o : Option (List EntityName)) → expecting (add_entity (Some e) o) (element_failure vs failure) (λ es. answers_bool (b || some_entity test es)) ≡ expecting o (element_failure vs failure) (λ es. answers_bool ((b || test e) || some_entity test es))
      rest None = refl
      rest (Some es) = ap answers_bool (sym (or_assoc b (test e) (some_entity test es)))

  -- another is the error
  pub untested : (b : Bool) (v : AbstractValue) (vs : AbstractValues) → entity_of v ≡ None → From b (one_value v vs) ≡ fails (wrong_type any_entity [] v)
  unfolding expecting entities_of_set element_failure unless_entity add_entity
  untested b v vs is =
      ap (λ o. expecting (add_entity o (entities_of_set vs)) (unless_entity o (wrong_type any_entity [] v) (element_failure vs failure)) (λ es. answers_bool (b || some_entity test es))) is

  pub all_tested : (b : Bool) (vs : AbstractValues) → vs ≡ no_values → From b vs ≡ answers_bool b
  unfolding expecting entities_of_set some_entity
  all_tested b vs is =
      ap (λ us. From b us) is ∙ ap answers_bool (or-false b)

  pub next_tested : (b : Bool) (ps more : List Placed) (p : Placed) (e : EntityName) (a : Answer) → From b (elements_in ps) ≡ a → ps ≡ p ∷ more → entity_of (abstract_value p.what) ≡ Some e → From (b || test e) (elements_in more) ≡ a
  next_tested b ps more p e a sofar is entity =
      sym (tested b (abstract_value p.what) (elements_in more) e entity) ∙ sym (ap (λ l. From b (elements_in l)) is) ∙ sofar

  pub next_refused : (b : Bool) (ps more : List Placed) (p : Placed) (a : Answer) (e : EvaluationError) → From b (elements_in ps) ≡ a → ps ≡ p ∷ more → (failure_of e ≢ out_of_memory → entity_of (abstract_value p.what) ≡ None) → FailsWith e (wrong_type any_entity [] (abstract_value p.what)) → fails (failure_of e) ≢ fails out_of_memory → fails (failure_of e) ≡ a
  next_refused b ps more p a e sofar is none error ok =
      let want : failure_of e ≢ out_of_memory = λ m. ok (ap fails m) in
      ap fails (error want) ∙ sym (untested b (abstract_value p.what) (elements_in more) (none want)) ∙ sym (ap (λ l. From b (elements_in l)) is) ∙ sofar
