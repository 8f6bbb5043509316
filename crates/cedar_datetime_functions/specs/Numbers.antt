-- What is done with the numbers of keys, and how computed numbers are written as values. What is done with a number
-- stands as `next`.
use Rattle.std.specs.Prelude.{ℕ, List, Option, None, Some, ℤ}
use Rattle.cedar_model.specs.Terms.{Text}
use Rattle.cedar_model.specs.Values.{extension_value, Represented}
use Rattle.cedar_model.specs.Outcomes.{function_failed}
use Rattle.cedar_model.specs.World.{FunctionAnswer, function_gives, function_errs}
use Rattle.cedar_model.specs.Failures.{function_has_failed, Answer, answers_value}
use Rattle.cedar_model.specs.Operators.{expecting}
use Rattle.cedar_datetime.specs.Duration.{written}
use Rattle.cedar_datetime.specs.Keys.{key, value_of_key}
use Rattle.cedar_extension_values.specs.Written.{constructed, offset_from_epoch}
use Rattle.cedar_datetime_functions.specs.Names.{datetime_name, duration_name, beyond_64_bits, not_eight_bytes}

-- goes on with the number, if there is one; or the function has failed
unfoldable pub or_failed : Option ℤ → (ℤ → FunctionAnswer) → FunctionAnswer
or_failed None next = function_errs function_failed
or_failed (Some z) next = next z

-- ---- the numbers of keys

-- goes on with the number of a key; or the extension's error, where there are not eight bytes
abbrev pub of_number : (ℤ → Answer) → List ℕ → Answer
of_number next k = expecting (value_of_key k) (function_has_failed datetime_name not_eight_bytes) next

abbrev pub made_of_number : (ℤ → FunctionAnswer) → List ℕ → FunctionAnswer
made_of_number next k = or_failed (value_of_key k) next

-- goes on with the numbers of two keys, the first one first
abbrev pub of_numbers : (ℤ → ℤ → Answer) → List ℕ → List ℕ → Answer
of_numbers next k l = of_number (λ z. of_number (next z) l) k

abbrev pub made_of_numbers : (ℤ → ℤ → FunctionAnswer) → List ℕ → List ℕ → FunctionAnswer
made_of_numbers next k l = made_of_number (λ z. made_of_number (next z) l) k

-- ---- numbers as values

-- the datetime of so many milliseconds, written `datetime("1970-01-01").offset(duration("Nms"))`
abbrev pub datetime_value : ℤ → Represented
datetime_value z = offset_from_epoch (key z) (written z)

-- the duration of so many milliseconds, written `duration("Nms")`
abbrev pub duration_value : ℤ → Represented
duration_value z = constructed duration_name (key z) duration_name (written z)

-- the value of the number, if it is within 64 bits; or the extension's error
abbrev pub if_within : (ℤ → Represented) → Option ℤ → Answer
if_within value z = expecting z (function_has_failed datetime_name beyond_64_bits) (λ n. answers_value (value n))

-- the value of this type and of the number's key
abbrev pub gives_number : Text → ℤ → FunctionAnswer
gives_number type_name z = function_gives (extension_value type_name (key z))

abbrev pub made_if_within : Text → Option ℤ → FunctionAnswer
made_if_within type_name z = or_failed z (gives_number type_name)
