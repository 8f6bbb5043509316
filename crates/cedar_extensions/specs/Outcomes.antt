-- What a stored function answers, and what it keeps. Locations and representations are no part of an outcome.
use Rattle.std.specs.Prelude.{◌≡◌, ℕ, Bool, true, false, List, length, map, Option, Some, None, option_map, Result, Ok}
use Rattle.std.specs.Prelude.{Err}
use Rattle.std.specs.Borrow.{Bor}
use Rattle.std.specs.Rc.{rc_str_bytes}
use mathlib.Core.Bool.{Bool-set}
use Rattle.cedar_model.specs.Values.{AbstractValue, abstract_value}
use Rattle.cedar_model.specs.Outcomes.{entity_does_not_exist, entity_attribute_does_not_exist}
use Rattle.cedar_model.specs.Outcomes.{record_attribute_does_not_exist, function_does_not_exist, type_error}
use Rattle.cedar_model.specs.Outcomes.{wrong_number_of_arguments, integer_overflow, unlinked_slot, function_failed}
use Rattle.cedar_model.specs.World.{FunctionAnswer, function_gives, function_errs, function_asks}
use Rattle.cedar_names.specs.Leaves.{type_view}
use Rattle.cedar_values.specs.Sound.{Placed, whats}
use Rattle.cedar_extensions.specs.Codes.{function_answer_set}
use Rattle.cedar_errors.specs.declared.extensions.ExtensionFunctionLookupError.{ExtensionFunctionLookupError}
use Rattle.cedar_errors.specs.declared.extensions.ExtensionFunctionLookupError.TheVariants as lookups
use Rattle.cedar_errors.specs.declared.evaluator.err.EvaluationError.{EvaluationError}
use Rattle.cedar_errors.specs.declared.evaluator.err.EvaluationError.TheVariants as errors
use Rattle.cedar_extensions.specs.declared.function.stored.ExtensionOutputValue.{ExtensionOutputValue}
use Rattle.cedar_extensions.specs.declared.function.stored.ExtensionOutputValue.TheVariants as outputs

-- what a call of a stored function returned
abbrev pub Returned : Type 0
Returned = Result ExtensionOutputValue EvaluationError

-- the kind of an error as an outcome; the recursion limit, a residual and running out of memory are none
abbrev pub error_outcome : EvaluationError → Option FunctionAnswer
error_outcome (errors.EntityDoesNotExist e) = Some (function_errs entity_does_not_exist)
error_outcome (errors.EntityAttrDoesNotExist e) = Some (function_errs entity_attribute_does_not_exist)
error_outcome (errors.RecordAttrDoesNotExist e) = Some (function_errs record_attribute_does_not_exist)
error_outcome (errors.FailedExtensionFunctionLookup e) = Some (function_errs function_does_not_exist)
error_outcome (errors.TypeError e) = Some (function_errs type_error)
error_outcome (errors.WrongNumArguments e) = Some (function_errs wrong_number_of_arguments)
error_outcome (errors.IntegerOverflow e) = Some (function_errs integer_overflow)
error_outcome (errors.UnlinkedSlot e) = Some (function_errs unlinked_slot)
error_outcome (errors.FailedExtensionFunctionExecution e) = Some (function_errs function_failed)
error_outcome (errors.NonValue e) = None
error_outcome (errors.RecursionLimit e) = None
error_outcome (errors.Memory e) = None

-- the outcome: a value, the kind of an error, or an unknown with its annotation
abbrev pub outcome : Returned → Option FunctionAnswer
outcome (Ok (outputs.Known v)) = Some (function_gives (abstract_value v.what))
outcome (Ok (outputs.Unknown u)) = Some (function_asks (rc_str_bytes u.name) (option_map type_view u.type_annotation))
outcome (Err e) = error_outcome e

-- whether a stored function may answer this error of a look-up: out of memory that it holds is an error of its own
abbrev pub is_lawful_lookup : ExtensionFunctionLookupError → Bool
is_lawful_lookup (lookups.FuncDoesNotExist e) = true
is_lawful_lookup (lookups.Memory e) = false

-- whether a stored function may answer this error
abbrev pub is_lawful_error : EvaluationError → Bool
is_lawful_error (errors.EntityDoesNotExist e) = true
is_lawful_error (errors.EntityAttrDoesNotExist e) = true
is_lawful_error (errors.RecordAttrDoesNotExist e) = true
is_lawful_error (errors.FailedExtensionFunctionLookup e) = is_lawful_lookup e
is_lawful_error (errors.TypeError e) = true
is_lawful_error (errors.WrongNumArguments e) = true
is_lawful_error (errors.IntegerOverflow e) = true
is_lawful_error (errors.UnlinkedSlot e) = true
is_lawful_error (errors.FailedExtensionFunctionExecution e) = true
is_lawful_error (errors.NonValue e) = false
is_lawful_error (errors.RecursionLimit e) = false
is_lawful_error (errors.Memory e) = true

abbrev pub is_lawful : Returned → Bool
is_lawful (Ok v) = true
is_lawful (Err e) = is_lawful_error e

-- the abstract values of arguments
abbrev pub abstracts : List Placed → List AbstractValue
abstracts vs = map abstract_value (whats vs)

-- ---- what a stored function keeps, by the `pre` and `post` of its calls

-- it may be called on every list of n values
abbrev pub TakesArity : (Bor (List Placed) → Type 0) → ℕ → Type 0
TakesArity pre n = (a : Bor (List Placed)) → length a.now ≡ n → pre a

-- to n arguments of these abstract values it allows the outcome o
abbrev pub AllowsBy : ℕ → (Bor (List Placed) → Returned → Type 0) → List AbstractValue → FunctionAnswer → Type 0
AllowsBy n post xs o =
    (a : Bor (List Placed)) × (r : Returned) × (length a.now ≡ n) × (abstracts a.now ≡ xs) × post a r
    × (outcome r ≡ Some o)

-- to equal arguments it allows one outcome at most, besides running out of memory
abbrev pub AtMostOne : ℕ → (Bor (List Placed) → Returned → Type 0) → Type 0
AtMostOne n post = (xs : List AbstractValue) (o p : FunctionAnswer) → AllowsBy n post xs o → AllowsBy n post xs p → o
    ≡ p

-- it answers neither the recursion limit nor a residual, nor the error of a look-up that holds an error of memory
abbrev pub OnlyLawful : ℕ → (Bor (List Placed) → Returned → Type 0) → Type 0
OnlyLawful n post = (a : Bor (List Placed)) (r : Returned) → length a.now ≡ n → post a r → is_lawful r ≡ true

-- a call comes to o, unless out of memory
abbrev pub ComesTo : Returned → FunctionAnswer → Type 0
ComesTo r o = (p : FunctionAnswer) → outcome r ≡ Some p → p ≡ o

-- ---- these facts have at most one proof, so that a struct may keep them

pub AtMostOne-prop : (n : ℕ) (post : Bor (List Placed) → Returned → Type 0) → IsProp (AtMostOne n post)
AtMostOne-prop n post h k = λ i xs o p x y. function_answer_set o p (h xs o p x y) (k xs o p x y) i

pub OnlyLawful-prop : (n : ℕ) (post : Bor (List Placed) → Returned → Type 0) → IsProp (OnlyLawful n post)
OnlyLawful-prop n post h k = λ i a r e x. Bool-set (is_lawful r) true (h a r e x) (k a r e x) i
