-- Laws of constructors, and of functions of one key or two.
use Rattle.std.specs.Prelude.{◌≡◌, ◌≢◌, ℕ, List, Option, Some}
use Rattle.cedar_model.specs.Terms.{Text, ValueType}
use Rattle.cedar_model.specs.Values.{Represented}
use Rattle.cedar_model.specs.World.{Extensions, Functions, FunctionAnswer, function_asks}
use Rattle.cedar_model.specs.Failures.{Failure, function_has_failed, Answer, answers_value}
use Rattle.cedar_model.specs.Agreement.{function_answer, IsFaithful}
use Rattle.cedar_extension_values.specs.Functions.{of_key, made_of_key, of_keys, made_of_keys, of_constructor}
use Rattle.cedar_extension_values.specs.Functions.{made_by_constructor, IsComputed, AsksNothing, AnswersFaithfully}
use Rattle.cedar_extension_values.specs.Functions.{HasFunction}

-- ---- constructors

abbrev pub ConstructorsAreComputed : Type 0
ConstructorsAreComputed =
    (t f extension message : Text) (key_of : Text → Option (List ℕ))
    → IsComputed (of_constructor t f (function_has_failed extension message) key_of) (made_by_constructor t key_of)

abbrev pub ConstructorsAskNothing : Type 0
ConstructorsAskNothing = (t : Text) (key_of : Text → Option (List ℕ)) → AsksNothing (made_by_constructor t key_of)

abbrev pub ConstructorsAreFaithful : Type 0
ConstructorsAreFaithful =
    (X : Extensions) (ans : Functions) (t f : Text) (e : Failure) (key_of : Text → Option (List ℕ))
    → HasFunction X ans f 1 (made_by_constructor t key_of) → AnswersFaithfully X ans (of_constructor t f e key_of)

-- ---- functions of a key

abbrev pub KeyFunctionsAreComputed : Type 0
KeyFunctionsAreComputed =
    (t : Text) (next : List ℕ → Answer) (made : List ℕ → FunctionAnswer)
    → ((k : List ℕ) → function_answer (next k) ≡ Some (made k)) → IsComputed (of_key t next) (made_of_key t made)

abbrev pub KeyFunctionsAskNothing : Type 0
KeyFunctionsAskNothing =
    (t : Text) (made : List ℕ → FunctionAnswer)
    → ((k : List ℕ) (n : Text) (u : Option ValueType) → made k ≢ function_asks n u) → AsksNothing (made_of_key t made)

abbrev pub KeyFunctionsAreFaithful : Type 0
KeyFunctionsAreFaithful =
    (X : Extensions) (ans : Functions) (t : Text) (next : List ℕ → Answer)
    → ((k : List ℕ) (v : Represented) → next k ≡ answers_value v → IsFaithful X ans v)
    → AnswersFaithfully X ans (of_key t next)

-- ---- functions of two keys

abbrev pub TwoKeyFunctionsAreComputed : Type 0
TwoKeyFunctionsAreComputed =
    (t u : Text) (next : List ℕ → List ℕ → Answer) (made : List ℕ → List ℕ → FunctionAnswer)
    → ((k l : List ℕ) → function_answer (next k l) ≡ Some (made k l))
    → IsComputed (of_keys t u next) (made_of_keys t u made)

abbrev pub TwoKeyFunctionsAskNothing : Type 0
TwoKeyFunctionsAskNothing =
    (t u : Text) (made : List ℕ → List ℕ → FunctionAnswer)
    → ((k l : List ℕ) (n : Text) (v : Option ValueType) → made k l ≢ function_asks n v)
    → AsksNothing (made_of_keys t u made)

abbrev pub TwoKeyFunctionsAreFaithful : Type 0
TwoKeyFunctionsAreFaithful =
    (X : Extensions) (ans : Functions) (t u : Text) (next : List ℕ → List ℕ → Answer)
    → ((k l : List ℕ) (v : Represented) → next k l ≡ answers_value v → IsFaithful X ans v)
    → AnswersFaithfully X ans (of_keys t u next)
