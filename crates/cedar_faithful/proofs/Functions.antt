-- What the functions of extensions answer: where there is none, where each is the built-in one, and where the standard
-- ones are alone.
use Rattle.std.specs.Prelude.{◌≡◌, Bool, true, false, cond, List, [], ◌∷◌, Option, Some, None, is_some}
use Rattle.std.specs.List.{AllByRecursion}
use Rattle.std.proofs.Common.{sym, ap, subst, ◌∙◌, true≢false}
use Rattle.cedar_model.specs.Terms.{Text, string_type, unknown}
use Rattle.cedar_model.specs.Values.{AbstractValue, Represented, abstract_value}
use Rattle.cedar_model.specs.Outcomes.{text_of}
use Rattle.cedar_model.specs.Failures.{Answer, Failure, PartialValue, answers, fails, answers_residual, wrong_type}
use Rattle.cedar_model.specs.Operators.{expecting}
use Rattle.cedar_model.proofs.Injections.{none_is_not_some, some_inj}
use Rattle.cedar_laws.specs.Faithful.{PartHoldsNoExtensionValue, AnswerNoExtensionValue, NoneAnswers}
use Rattle.cedar_extensions.specs.declared.extensions.Extensions.{Extensions}
use Rattle.cedar_extensions.specs.declared.function.ExtensionFunction.{ExtensionFunction}
use Rattle.cedar_extensions.specs.Answers.{AsksOf}
use Rattle.cedar_extensions.specs.Extension.{all_functions}
use Rattle.cedar_extensions.specs.Functions.{AnswersAs, function_among, has_name}
use Rattle.cedar_extensions.specs.Extensions.{extensions_in, has_standard, func_of, HasNone, made_calls_of, calls_of}
use Rattle.cedar_extensions.specs.Standard.{standard_if, StandardFirst}
use Rattle.cedar_extensions.specs.Computations.{AreBuiltIn, ComputeByName, AnswerStandard, MadeAreFaithfulBy}
use Rattle.cedar_standard_functions.specs.Standard.{made_by, standard_answers}
use Rattle.cedar_standard_functions.specs.StandardLaws.{are_found}

-- a failure is no part
not_failed : (p : PartialValue) (e : Failure) → answers p ≡ fails e → ⊥
not_failed p e h = cc

part_is : {p q : PartialValue} → answers p ≡ answers q → p ≡ q
part_is h = cc

-- the built-in answers no value
asked_free : (o : Option Text) (v : AbstractValue) (p : PartialValue) → answers p
    ≡ expecting o (wrong_type string_type [] v) (λ t. answers_residual (unknown t None)) → PartHoldsNoExtensionValue p
unfolding expecting
asked_free None v p e = absurd (not_failed p (wrong_type string_type [] v) e)
asked_free (Some t) v p e = subst PartHoldsNoExtensionValue (sym (part_is e)) tt

asks_free : (vs : List Represented) (p : PartialValue) → AsksOf vs (answers p) → PartHoldsNoExtensionValue p
asks_free [] p h = absurd h
asks_free (v ∷ []) p h = asked_free (text_of (abstract_value v)) (abstract_value v) p h
asks_free (v ∷ (w ∷ vs)) p h = absurd h

-- under their names the standard functions answer what they compute
pub answer_standard : AnswerStandard standard_answers
answer_standard f vs = ap (λ o. made_by o vs) (are_found f)

module _ {X : Type 0} {F : X → Type 0} {g : _} (x : Extensions X F g) where
  no_function : (n : Text) (f : _) → extensions_in x ≡ [] → func_of x n ≡ Some f → ⊥
  no_function n f none found =
      true≢false (sym (ap is_some (sym (ap (λ es. function_among n (all_functions es)) none) ∙ found)))

  -- without standard functions each call is one of a function that the caller made
  made_alone : has_standard x ≡ false → (n : Text) (vs : List Represented) (a : Answer) → calls_of x n vs a
      → made_calls_of x n vs a
  made_alone e n vs a h =
      subst (λ o. StandardFirst o (made_calls_of x n vs a) vs a) (ap (λ b. standard_if b n) e) h

  pub none_answers : HasNone x → NoneAnswers (calls_of x)
  none_answers none n vs a h =
      let own : made_calls_of x n vs a = made_alone none.not_standard n vs a h in
      no_function n own.0 none.none_made own.1

  -- what holds of each function holds of the one that a name finds
  found_by : (P : ExtensionFunction X F g → Type 0) (b : Bool) (h f : ExtensionFunction X F g)
      (o : Option (ExtensionFunction X F g)) → P h → (o ≡ Some f → P f) → cond b (Some h) o ≡ Some f → P f
  found_by P true h f o here later e = subst P (some_inj e) here
  found_by P false h f o here later e = later e

  each_found : (P : ExtensionFunction X F g → Type 0) (n : Text) (fs : List (ExtensionFunction X F g))
      (f : ExtensionFunction X F g) → AllByRecursion P fs → function_among n fs ≡ Some f → P f
  each_found P n [] f all e = absurd (none_is_not_some e)
  each_found P n (h ∷ fs) f all e =
      found_by P (has_name n h) h f (function_among n fs) all.0 (each_found P n fs f all.1) e

  pub built_in_holds : AreBuiltIn x → AnswerNoExtensionValue (calls_of x)
  built_in_holds are n vs p h =
      let own : made_calls_of x n vs (answers p) = made_alone are.not_standard n vs (answers p) h in
      asks_free vs p
      ((each_found (λ f. AnswersAs f AsksOf) n (all_functions (extensions_in x)) own.0 are.all_ask own.1 vs
      (answers p)).0 own.2)

  -- where the caller made no function, each name is that of a standard one, and what he made answers nothing
  module _ (there : has_standard x ≡ true) (none : extensions_in x ≡ []) where
    pub computes_alone : ComputeByName x standard_answers
    computes_alone = record {
      standard = λ n f is vs. ap (λ o. made_by o vs) (sym (ap (λ b. standard_if b n) there) ∙ is);
      made = λ n f not found. absurd (no_function n f none found);
    }

    pub made_faithful_alone : MadeAreFaithfulBy x standard_answers
    made_faithful_alone n vs v faithful own = absurd (no_function n own.0 none own.1)
