-- Extension functions as plain data.
use Rattle.std.specs.Prelude.{◌≡◌, ◌≢◌, ◌↔◌, ℕ, Bool, cond, List, length, map, Option, None, Some, MatchOption}
use Rattle.std.specs.Borrow.{Bor}
use Rattle.std.specs.List.{find, filter_map}
use Rattle.cedar_model.specs.Terms.{Text}
use Rattle.cedar_model.specs.Values.{Represented}
use Rattle.cedar_model.specs.Outcomes.{text_eq}
use Rattle.cedar_model.specs.Failures.{Answer, arguments_are_miscounted, out_of_memory}
use Rattle.cedar_model.specs.Rules.{LooksUp}
use Rattle.cedar_errors.specs.Failures.{failure_of}
use Rattle.cedar_errors.specs.declared.evaluator.err.EvaluationError.{EvaluationError}
use Rattle.cedar_names.specs.declared.names.CallStyle.{CallStyle}
use Rattle.cedar_names.specs.declared.names.Name.{Name}
use Rattle.cedar_names.specs.declared.types.«Type».{«Type» as RType}
use Rattle.cedar_names.specs.Names.{name_text}
use Rattle.cedar_names.specs.Leaves.{type_view}
use Rattle.cedar_extensions.specs.declared.function.ExtensionFunction.{ExtensionFunction}
use Rattle.cedar_extensions.specs.Callees.{CalleeAnswers}
use Rattle.cedar_extensions.specs.Types.{name_in, is_one_text}

-- its name
abbrev pub function_name : {X : Type 0} {F : X → Type 0} {g : _} → ExtensionFunction X F g → Name
function_name f = f.name

-- how it is written at a call
abbrev pub function_style : {X : Type 0} {F : X → Type 0} {g : _} → ExtensionFunction X F g → CallStyle
function_style f = f.style

-- the type of what it answers, if that is known
abbrev pub function_returns : {X : Type 0} {F : X → Type 0} {g : _} → ExtensionFunction X F g → Option RType
function_returns f = f.return_type

-- the types of its arguments
abbrev pub function_takes : {X : Type 0} {F : X → Type 0} {g : _} → ExtensionFunction X F g → List RType
function_takes f = f.arg_types.items

-- how many arguments it takes
abbrev pub arity : {X : Type 0} {F : X → Type 0} {g : _} → ExtensionFunction X F g → ℕ
arity f = length (function_takes f)

-- its name's text
abbrev pub function_text : {X : Type 0} {F : X → Type 0} {g : _} → ExtensionFunction X F g → Text
function_text f = name_text (function_name f)

-- what it may answer to values, besides running out of memory
abbrev pub CanAnswer : {X : Type 0} {F : X → Type 0} {g : _} → ExtensionFunction X F g → List Represented → Answer
    → Type 0
CanAnswer f vs a = CalleeAnswers f.callee vs a

-- it may answer exactly what this says
abbrev pub AnswersAs : {X : Type 0} {F : X → Type 0} {g : _} → ExtensionFunction X F g
    → (List Represented → Answer → Type 0)
    → Type 0
AnswersAs f Says = (vs : List Represented) (a : Answer) → CanAnswer f vs a ↔ Says vs a

-- what the rule for calls reads of the function alone: a wrong number of arguments, or what it may answer
abbrev pub AnswersAlone : {X : Type 0} {F : X → Type 0} {g : _} → ExtensionFunction X F g → List Represented → Answer
    → Type 0
AnswersAlone f vs a = LooksUp (λ _. CanAnswer f) (Some (arity f)) (function_text f) vs a

-- the error that it is called with so many arguments, unless it is out of memory
abbrev pub IsMiscounted : {X : Type 0} {F : X → Type 0} {g : _} → ExtensionFunction X F g → ℕ → EvaluationError → Type 0
IsMiscounted f n e =
    failure_of e ≢ out_of_memory → failure_of e ≡ arguments_are_miscounted (function_text f) (arity f) n

-- ---- extension types

-- the extension type that it answers values of
abbrev pub answered_type : {X : Type 0} {F : X → Type 0} {g : _} → ExtensionFunction X F g → Option Name
answered_type f = name_in (function_returns f)

-- the extension type that it makes values of, each of exactly one text
abbrev pub constructed_type : {X : Type 0} {F : X → Type 0} {g : _} → ExtensionFunction X F g → Option Name
constructed_type f = cond (is_one_text (map type_view (function_takes f))) (answered_type f) None

-- ---- several functions

abbrev pub has_name : {X : Type 0} {F : X → Type 0} {g : _} → Text → ExtensionFunction X F g → Bool
has_name n f = text_eq (function_text f) n

-- the first function of this name
abbrev pub function_among : {X : Type 0} {F : X → Type 0} {g : _} → Text → List (ExtensionFunction X F g)
    → Option (ExtensionFunction X F g)
function_among n fs = find (has_name n) fs

-- what a look-up found
abbrev pub IsFound : {X : Type 0} {F : X → Type 0} {g : _} → Option (ExtensionFunction X F g)
    → Option (Bor (ExtensionFunction X F g))
    → Type 0
IsFound o r = MatchOption r (o ≡ None) (λ f. o ≡ Some f.now)

-- their names
abbrev pub function_names : {X : Type 0} {F : X → Type 0} {g : _} → List (ExtensionFunction X F g) → List Name
function_names fs = map function_name fs

-- the extension types that they answer values of: one for each that does
abbrev pub answered_types : {X : Type 0} {F : X → Type 0} {g : _} → List (ExtensionFunction X F g) → List Name
answered_types fs = filter_map answered_type fs

-- the extension types that they make values of, each of exactly one text
abbrev pub constructed_types : {X : Type 0} {F : X → Type 0} {g : _} → List (ExtensionFunction X F g) → List Name
constructed_types fs = filter_map constructed_type fs
