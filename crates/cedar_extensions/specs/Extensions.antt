-- The extensions of an evaluation as plain data, and what their functions may answer.
use Rattle.std.specs.Prelude.{◌≡◌, ◌++◌, Bool, false, List, [], map, Option, None, Some, option_map}
use Rattle.std.specs.Option.{option_or}
use Rattle.cedar_model.specs.Terms.{Text, ValueType, extension_type}
use Rattle.cedar_model.specs.World as model
use Rattle.cedar_model.specs.Values.{Represented}
use Rattle.cedar_model.specs.Failures.{PartialValue, Answer, answers}
use Rattle.cedar_model.specs.Rules.{StoredCalls, LooksUp}
use Rattle.cedar_names.specs.Names.{name_text}
use Rattle.cedar_extensions.specs.declared.extension.Extension.{Extension}
use Rattle.cedar_extensions.specs.declared.extensions.Extensions.{Extensions}
use Rattle.cedar_extensions.specs.declared.function.ExtensionFunction.{ExtensionFunction}
use Rattle.cedar_extensions.specs.Extension.{all_functions, all_overloading_types}
use Rattle.cedar_extensions.specs.Functions.{arity, CanAnswer, function_among}
use Rattle.cedar_extensions.specs.Standard.{standard_if, overloaded_if, standard_arity, StandardFirst}
use Rattle.cedar_standard_functions.specs.declared.function.StandardFunction.{StandardFunction}

-- the extensions that the caller made, in order
abbrev pub extensions_in : {X : Type 0} {F : X → Type 0} {g : _} → Extensions X F g → List (Extension X F g)
extensions_in x = x.extensions.now

-- whether the standard functions are there
abbrev pub has_standard : {X : Type 0} {F : X → Type 0} {g : _} → Extensions X F g → Bool
has_standard x = x.standard

-- the standard function of this name, if they are there
abbrev pub standard_of : {X : Type 0} {F : X → Type 0} {g : _} → Extensions X F g → Text → Option StandardFunction
standard_of x n = standard_if (has_standard x) n

-- the function of this name that the caller made
abbrev pub func_of : {X : Type 0} {F : X → Type 0} {g : _} → Extensions X F g → Text → Option (ExtensionFunction X F g)
func_of x n = function_among n (all_functions (extensions_in x))

-- there is no function
pub record HasNone {X : Type 0} {F : X → Type 0} {g : _} (x : Extensions X F g) : Type 0 where
  pub not_standard : has_standard x ≡ false
  pub none_made : extensions_in x ≡ []

-- as plain data: how many arguments each function takes, and the types whose values `<` compares; standard ones first
abbrev pub extensions_view : {X : Type 0} {F : X → Type 0} {g : _} → Extensions X F g → model.Extensions
extensions_view x =
    record {
      arity = λ n. option_or (option_map standard_arity (standard_of x n)) (option_map arity (func_of x n));
      overloaded = overloaded_if (has_standard x) ++ map name_text (all_overloading_types (extensions_in x));
    }

-- the types whose values `<` compares
abbrev pub overloaded_types_in : {X : Type 0} {F : X → Type 0} {g : _} → Extensions X F g → List ValueType
overloaded_types_in x = map extension_type (extensions_view x).overloaded

-- no extension
abbrev pub no_extensions : model.Extensions
no_extensions = record { arity = λ n. None; overloaded = [] }

-- what each function that the caller made may answer, besides running out of memory
abbrev pub made_calls_of : {X : Type 0} {F : X → Type 0} {g : _} → Extensions X F g → StoredCalls
made_calls_of x n vs a = (f : _) × (func_of x n ≡ Some f) × CanAnswer f vs a

-- what each function may answer, besides running out of memory
abbrev pub calls_of : {X : Type 0} {F : X → Type 0} {g : _} → Extensions X F g → StoredCalls
calls_of x n vs a = StandardFirst (standard_of x n) (made_calls_of x n vs a) vs a

-- what the rule for calls reads: there is no such function, the wrong number of arguments, or what it may answer
abbrev pub AnswersCall : {X : Type 0} {F : X → Type 0} {g : _} → Extensions X F g → Text → List Represented → Answer
    → Type 0
AnswersCall x n vs a = LooksUp (calls_of x) ((extensions_view x).arity n) n vs a

-- so is each value or residual that functions answer
abbrev pub EachAnswer : (PartialValue → Type 0) → StoredCalls → Type 0
EachAnswer Is calls = (f : Text) (vs : List Represented) (p : PartialValue) → calls f vs (answers p) → Is p
