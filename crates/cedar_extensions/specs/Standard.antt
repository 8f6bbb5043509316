-- The standard functions, where extensions have them.
use Rattle.std.specs.Prelude.{◌≡◌, ℕ, Bool, true, false, List, [], length, map, Option, Some, None}
use Rattle.cedar_model.specs.Terms.{Text}
use Rattle.cedar_model.specs.Values.{Represented, abstract_value}
use Rattle.cedar_model.specs.Failures.{Answer}
use Rattle.cedar_model.specs.Rules.{LooksUp}
use Rattle.cedar_standard_functions.specs.Kinds.{overloaded}
use Rattle.cedar_standard_functions.specs.Standard.{standard_named, name_of, takes, answer_of}
use Rattle.cedar_standard_functions.specs.declared.function.StandardFunction.{StandardFunction}

-- the standard function of this name, if they are there
abbrev pub standard_if : Bool → Text → Option StandardFunction
standard_if true n = standard_named n
standard_if false n = None

-- the standard types whose values `<` compares, if they are there
abbrev pub overloaded_if : Bool → List Text
overloaded_if true = overloaded
overloaded_if false = []

-- how many arguments it takes
abbrev pub standard_arity : StandardFunction → ℕ
standard_arity f = length (takes f)

-- what it answers to values
abbrev pub StandardAnswers : StandardFunction → List Represented → Answer → Type 0
StandardAnswers f vs a = a ≡ answer_of f (map abstract_value vs)

-- a standard function answers so, and where there is none, what else is called does
abbrev pub StandardFirst : Option StandardFunction → Type 0 → List Represented → Answer → Type 0
StandardFirst None Own vs a = Own
StandardFirst (Some f) Own vs a = StandardAnswers f vs a

-- what the rule for calls reads of a standard function alone: a wrong number of arguments, or what it answers
abbrev pub StandardAlone : StandardFunction → List Represented → Answer → Type 0
StandardAlone f vs a = LooksUp (λ _. StandardAnswers f) (Some (standard_arity f)) (name_of f) vs a
