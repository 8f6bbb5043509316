-- What functions of the standard extensions answer to values, and what they compute: the same without representations
-- and without the fields of errors. What a function is given after its arguments stands as `next`.
use Rattle.std.specs.Prelude.{◌≡◌, ◌≢◌, ℕ, Bool, List, [], Option, None, Some}
use Rattle.cedar_model.specs.Terms.{Text, bool_literal, ValueType, string_type, extension_type}
use Rattle.cedar_model.specs.Values.{AbstractValue, plain, extension_value, Represented}
use Rattle.cedar_model.specs.Outcomes.{type_error, function_failed, text_of}
use Rattle.cedar_model.specs.World.{Extensions, Functions, FunctionAnswer, function_gives, function_errs, function_asks}
use Rattle.cedar_model.specs.Failures.{Failure, wrong_type, Answer, answers_value, fails}
use Rattle.cedar_model.specs.Operators.{expecting}
use Rattle.cedar_model.specs.Agreement.{function_answer, IsFaithful}
use Rattle.cedar_extension_values.specs.Arguments.{key_in, first_of, second_of}
use Rattle.cedar_extension_values.specs.Written.{constructed}

-- what a function answers to values
abbrev pub Answering : Type 0
Answering = List AbstractValue → Answer

-- what it computes
abbrev pub Computing : Type 0
Computing = List AbstractValue → FunctionAnswer

-- goes on with what is needed of an argument; an argument of another type is a type error
unfoldable pub needing : {A : Type 0} → Option A → (A → FunctionAnswer) → FunctionAnswer
needing None next = function_errs type_error
needing (Some x) next = next x

-- ---- of a text

-- goes on with the first argument, a text
abbrev pub of_text : (Text → Answer) → Answering
of_text next vs = expecting (text_of (first_of vs)) (wrong_type string_type [] (first_of vs)) next

abbrev pub made_of_text : (Text → FunctionAnswer) → Computing
made_of_text next vs = needing (text_of (first_of vs)) next

-- ---- of a value of an extension type, and of two

-- goes on with the key of the first argument, which is of this extension type
abbrev pub of_key : Text → (List ℕ → Answer) → Answering
of_key type_name next vs =
    expecting (key_in type_name (first_of vs)) (wrong_type (extension_type type_name) [] (first_of vs)) next

abbrev pub made_of_key : Text → (List ℕ → FunctionAnswer) → Computing
made_of_key type_name next vs = needing (key_in type_name (first_of vs)) next

-- and then with the key of the second, which is of the other extension type
abbrev pub of_keys : Text → Text → (List ℕ → List ℕ → Answer) → Answering
of_keys type_name other next vs =
    of_key type_name (λ k. expecting (key_in other (second_of vs))
    (wrong_type (extension_type other) [] (second_of vs)) (next k)) vs

abbrev pub made_of_keys : Text → Text → (List ℕ → List ℕ → FunctionAnswer) → Computing
made_of_keys type_name other next vs =
    made_of_key type_name (λ k. needing (key_in other (second_of vs)) (next k)) vs

-- ---- constructors

-- the value of the key of the text, written as the call on that text; or the extension's error, with this message
unfoldable pub written_or_failed : Text → Text → Failure → Text → Option (List ℕ) → Answer
written_or_failed type_name function failure text None = fails failure
written_or_failed type_name function failure text (Some k) = answers_value (constructed type_name k function text)

-- what a constructor answers: its type, its own name, its error, and the keys of the texts that have one
abbrev pub of_constructor : Text → Text → Failure → (Text → Option (List ℕ)) → Answering
of_constructor type_name function failure key_of =
    of_text (λ text. written_or_failed type_name function failure text (key_of text))

-- the value of this key, where there is one; or the function has failed
unfoldable pub made_or_failed : Text → Option (List ℕ) → FunctionAnswer
made_or_failed type_name None = function_errs function_failed
made_or_failed type_name (Some k) = function_gives (extension_value type_name k)

abbrev pub made_by_constructor : Text → (Text → Option (List ℕ)) → Computing
made_by_constructor type_name key_of = made_of_text (λ text. made_or_failed type_name (key_of text))

abbrev pub gives_bool : Bool → FunctionAnswer
gives_bool b = function_gives (plain (bool_literal b))

-- ---- what is said of such functions

-- what is answered is what is computed: the value, or an error of that kind
abbrev pub IsComputed : Answering → Computing → Type 0
IsComputed answer compute = (vs : List AbstractValue) → function_answer (answer vs) ≡ Some (compute vs)

-- no unknown is computed
abbrev pub AsksNothing : Computing → Type 0
AsksNothing compute = (vs : List AbstractValue) (n : Text) (t : Option ValueType) → compute vs ≢ function_asks n t

module _ (X : Extensions) (ans : Functions) where
  -- each value that is answered is faithful
  abbrev pub AnswersFaithfully : Answering → Type 0
  AnswersFaithfully answer =
      (vs : List AbstractValue) (v : Represented) → answer vs ≡ answers_value v → IsFaithful X ans v

  -- a function of this name takes so many arguments and answers what is computed
  pub record HasFunction (f : Text) (n : ℕ) (compute : Computing) : Type 0 where
    pub takes : X.arity f ≡ Some n
    pub computes : (vs : List AbstractValue) → ans f vs ≡ compute vs
