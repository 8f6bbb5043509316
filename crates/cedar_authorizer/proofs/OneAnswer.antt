-- Extensions whose functions have one answer to the same arguments.
use Rattle.std.proofs.Common.{◌≡◌, refl, sym, ap, subst, ◌∙◌, Bool, true, false, true≢false, cond, List, [], ◌∷◌}
use Rattle.std.proofs.Common.{Option, Some, None, is_some}
use Rattle.std.specs.List.{find, AllByRecursion}
use Rattle.cedar_model.specs.Terms.{Text}
use Rattle.cedar_model.specs.Values.{Represented}
use Rattle.cedar_model.specs.Failures.{Answer}
use Rattle.cedar_laws.specs.EqualRuns.{HaveOneAnswer}
use Rattle.cedar_extensions.specs.declared.extensions.Extensions.{Extensions}
use Rattle.cedar_extensions.specs.declared.function.ExtensionFunction.{ExtensionFunction}
use Rattle.cedar_extensions.specs.Answers.{AsksOf}
use Rattle.cedar_extensions.specs.Functions.{AnswersAs, function_among, has_name}
use Rattle.cedar_extensions.specs.Extension.{all_functions}
use Rattle.cedar_extensions.specs.Extensions.{extensions_in, standard_of, made_calls_of, calls_of}
use Rattle.cedar_extensions.specs.Standard.{StandardFirst}
use Rattle.cedar_standard_functions.specs.declared.function.StandardFunction.{StandardFunction}
use Rattle.cedar_extensions.specs.Computations.{AreBuiltIn}

asks_once : (vs : List Represented) (a b : Answer) → AsksOf vs a → AsksOf vs b → a ≡ b
asks_once [] a b h k = absurd h
asks_once (v ∷ []) a b h k = h ∙ sym k
asks_once (v ∷ (w ∷ vs)) a b h k = absurd h

-- a standard function has one answer
first_once : (o : Option StandardFunction) (Own Other : Type 0) (vs : List Represented) (a b : Answer)
    → StandardFirst o Own vs a → StandardFirst o Other vs b → (Own → Other → a ≡ b) → a ≡ b
first_once None Own Other vs a b h k own = own h k
first_once (Some f) Own Other vs a b h k own = h ∙ sym k

module _ {X : Type 0} {F : X → Type 0} {g : _} where
  -- what holds of each function holds of the one that a name finds
  each_found : (P : ExtensionFunction X F g → Type 0) (n : Text) (fs : List (ExtensionFunction X F g))
      (f : ExtensionFunction X F g) → AllByRecursion P fs → function_among n fs ≡ Some f → P f
  each_found P n [] f all found = absurd (true≢false (sym (ap is_some found)))
  each_found P n (h ∷ fs) f all found = by (each_found P n fs f all.1) (has_name n h) refl
    where
      by : (function_among n fs ≡ Some f → P f) → (b : Bool) → has_name n h ≡ b → P f
      by later true e =
          let s : Some h ≡ Some f = sym (ap (λ (b : Bool). cond b (Some h) (find (has_name n) fs)) e) ∙ found in
          let same : h ≡ f = cc s in
          subst P same all.0
      by later false e = later (sym (ap (λ (b : Bool). cond b (Some h) (find (has_name n) fs)) e) ∙ found)

  module _ (x : Extensions X F g) where
    none_made : extensions_in x ≡ [] → (n : Text) (vs : List Represented) (a : Answer) → made_calls_of x n vs a → ⊥
    none_made none n vs a (f, found, can) =
        true≢false (sym (ap is_some (sym (ap (λ es. function_among n (all_functions es)) none) ∙ found)))

    pub none_have_one_answer : extensions_in x ≡ [] → HaveOneAnswer (calls_of x)
    none_have_one_answer none n vs a b h k =
        first_once (standard_of x n) (made_calls_of x n vs a) (made_calls_of x n vs b) vs a b h k
        (λ own other. absurd (none_made none n vs a own))

    pub built_in_have_one_answer : AreBuiltIn x → HaveOneAnswer (calls_of x)
    built_in_have_one_answer built n vs a b h k =
        first_once (standard_of x n) (made_calls_of x n vs a) (made_calls_of x n vs b) vs a b h k
        (λ (f, found, can) (d, found', can'). asks_once vs a b
        ((each_found (λ z. AnswersAs z AsksOf) n (all_functions (extensions_in x)) f built.all_ask found vs a).0 can)
        ((each_found (λ z. AnswersAs z AsksOf) n (all_functions (extensions_in x)) d built.all_ask found' vs b).0 can'))
