-- What the functions of extensions answer where that is said: the functions of a world that agree with them.
use Rattle.std.specs.Prelude.{◌≡◌, ℕ, false, cond, List, [], ◌∷◌, length, map, Option, Some, None}
use Rattle.std.specs.Borrow.{Bor}
use Rattle.std.specs.List.{AllByRecursion}
use Rattle.cedar_model.specs.Terms.{Text}
use Rattle.cedar_model.specs.Values.{AbstractValue, Represented, abstract_value}
use Rattle.cedar_model.specs.Outcomes.{function_does_not_exist, type_error, text_of, text_eq}
use Rattle.cedar_model.specs.World.{FunctionAnswer, function_errs, function_asks, Functions}
use Rattle.cedar_model.specs.Failures.{Answer}
use Rattle.cedar_model.specs.Agreement.{function_answer, AgreesWithFunctions, AnswerFaithfully}
use Rattle.cedar_values.specs.Sound.{Placed}
use Rattle.cedar_extensions.specs.declared.extensions.Extensions.{Extensions}
use Rattle.cedar_extensions.specs.declared.function.ExtensionFunction.{ExtensionFunction}
use Rattle.cedar_extensions.specs.Outcomes.{Returned, abstracts, ComesTo}
use Rattle.cedar_extensions.specs.Answers.{AsksOf}
use Rattle.cedar_extensions.specs.Functions.{CanAnswer, AnswersAs, function_text}
use Rattle.cedar_extensions.specs.Extension.{all_functions}
use Rattle.cedar_extensions.specs.Extensions.{extensions_in, has_standard, standard_of, func_of, extensions_view}
use Rattle.cedar_extensions.specs.Extensions.{made_calls_of, calls_of}
use Rattle.cedar_standard_functions.specs.Standard.{name_of, made_of}
use Rattle.cedar_standard_functions.specs.declared.function.StandardFunction.{StandardFunction}

-- what a function gives to abstract values
abbrev pub Computation : Type 0
Computation = List AbstractValue → FunctionAnswer

-- ---- what one function computes

-- each call of n arguments comes to what c gives to their abstract values, unless out of memory
abbrev pub EachCallComesTo : ℕ → (Bor (List Placed) → Returned → Type 0) → Computation → Type 0
EachCallComesTo n post c =
    (a : Bor (List Placed)) (r : Returned) → length a.now ≡ n → post a r → ComesTo r (c (abstracts a.now))

-- the function answers what c gives to the abstract values of its arguments
abbrev pub Computes : {X : Type 0} {F : X → Type 0} {g : _} → ExtensionFunction X F g → Computation → Type 0
Computes f c =
    (vs : List Represented) (a : Answer) → CanAnswer f vs a → function_answer a ≡ Some (c (map abstract_value vs))

-- so each function of the one list, in order, and each computation of the other
abbrev pub EachComputes : {X : Type 0} {F : X → Type 0} {g : _} → List (ExtensionFunction X F g) → List Computation
    → Type 0
EachComputes [] [] = Unit {0}
EachComputes [] (c ∷ cs) = ⊥
EachComputes (f ∷ fs) [] = ⊥
EachComputes (f ∷ fs) (c ∷ cs) = Computes f c × EachComputes fs cs

-- what the built-in `unknown` gives to one value: of a text the untyped unknown of that name, and else a type error
abbrev pub unknown_of : Option Text → FunctionAnswer
unknown_of None = function_errs type_error
unknown_of (Some t) = function_asks t None

-- what it gives to values (it takes one)
abbrev pub unknown_made : Computation
unknown_made [] = function_errs type_error
unknown_made (v ∷ []) = unknown_of (text_of v)
unknown_made (v ∷ (w ∷ vs)) = function_errs type_error

-- ---- functions of a world

-- no function is there
abbrev pub no_answers : Functions
no_answers f vs = function_errs function_does_not_exist

-- whatever its name, each function is the built-in `unknown`
abbrev pub built_in_answers : Functions
built_in_answers f = unknown_made

-- under each name what the first of that name gives, and under any other that no function is there
abbrev pub answers_named : List Text → List Computation → Functions
answers_named [] cs n vs = function_errs function_does_not_exist
answers_named (m ∷ ms) [] n vs = function_errs function_does_not_exist
answers_named (m ∷ ms) (c ∷ cs) n vs = cond (text_eq m n) (c vs) (answers_named ms cs n vs)

-- a standard function gives what it computes, and where there is none, this is given
abbrev pub standard_first : Option StandardFunction → FunctionAnswer → Computation
standard_first None own vs = own
standard_first (Some f) own vs = made_of f vs

-- under the names of the standard functions these functions answer what those compute
abbrev pub AnswerStandard : Functions → Type 0
AnswerStandard ans = (f : StandardFunction) (vs : List AbstractValue) → ans (name_of f) vs ≡ made_of f vs

module _ {X : Type 0} {F : X → Type 0} {g : _} (x : Extensions X F g) where
  -- what the standard functions compute, where they are there; else, under the names of the functions that the caller
  -- made, in order, what these computations give
  abbrev pub computed_answers : List Computation → Functions
  computed_answers cs n vs =
      standard_first (standard_of x n) (answers_named (map function_text (all_functions (extensions_in x))) cs n vs) vs

  -- the functions that the caller made, in order, are such as compute this
  abbrev pub AllCompute : List Computation → Type 0
  AllCompute = EachComputes (all_functions (extensions_in x))

  -- the function of each name computes what the world's functions answer under that name
  pub record ComputeByName (ans : Functions) : Type 0 where
    pub standard : (n : Text) (f : StandardFunction) → standard_of x n ≡ Some f → (vs : List AbstractValue) → ans n vs
        ≡ made_of f vs
    pub made : (n : Text) (f : _) → standard_of x n ≡ None → func_of x n ≡ Some f → Computes f (ans n)

  -- each function is the built-in `unknown`
  pub record AreBuiltIn : Type 0 where
    pub not_standard : has_standard x ≡ false
    pub all_ask : AllByRecursion (λ f. AnswersAs f AsksOf) (all_functions (extensions_in x))

  -- these functions of a world agree with the extensions' functions
  abbrev pub AgreesWith : Functions → Type 0
  AgreesWith ans = AgreesWithFunctions ans (calls_of x)

  -- and to faithful values the extensions' functions answer faithful values
  abbrev pub AreFaithfulBy : Functions → Type 0
  AreFaithfulBy ans = AnswerFaithfully (extensions_view x) ans (calls_of x)

  -- so do those that the caller made
  abbrev pub MadeAreFaithfulBy : Functions → Type 0
  MadeAreFaithfulBy ans = AnswerFaithfully (extensions_view x) ans (made_calls_of x)
