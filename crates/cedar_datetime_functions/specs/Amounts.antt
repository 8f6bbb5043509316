-- What the functions that count the units of a duration answer and compute.
use Rattle.std.specs.Prelude.{ℤ}
use Rattle.cedar_model.specs.Terms.{long_literal}
use Rattle.cedar_model.specs.Values.{plain, plain_represented}
use Rattle.cedar_model.specs.World.{FunctionAnswer, function_gives}
use Rattle.cedar_model.specs.Failures.{Answer, answers_value}
use Rattle.cedar_datetime.specs.Operations.{in_seconds, in_minutes, in_hours, in_days}
use Rattle.cedar_extension_values.specs.Functions.{Answering, of_key, Computing, made_of_key}
use Rattle.cedar_datetime_functions.specs.Names.{duration_name}
use Rattle.cedar_datetime_functions.specs.Numbers.{of_number, made_of_number}

abbrev pub answers_long : ℤ → Answer
answers_long n = answers_value (plain_represented (long_literal n))

abbrev pub gives_long : ℤ → FunctionAnswer
gives_long n = function_gives (plain (long_literal n))

-- how many of a unit the duration has, by its milliseconds
abbrev pub amount : (ℤ → ℤ) → Answering
amount units_in = of_key duration_name (of_number (λ z. answers_long (units_in z)))

abbrev pub amount_made : (ℤ → ℤ) → Computing
amount_made units_in = made_of_key duration_name (made_of_number (λ z. gives_long (units_in z)))

abbrev pub to_milliseconds_answer : Answering
to_milliseconds_answer = amount (λ z. z)

abbrev pub to_milliseconds_made : Computing
to_milliseconds_made = amount_made (λ z. z)

abbrev pub to_seconds_answer : Answering
to_seconds_answer = amount in_seconds

abbrev pub to_seconds_made : Computing
to_seconds_made = amount_made in_seconds

abbrev pub to_minutes_answer : Answering
to_minutes_answer = amount in_minutes

abbrev pub to_minutes_made : Computing
to_minutes_made = amount_made in_minutes

abbrev pub to_hours_answer : Answering
to_hours_answer = amount in_hours

abbrev pub to_hours_made : Computing
to_hours_made = amount_made in_hours

abbrev pub to_days_answer : Answering
to_days_answer = amount in_days

abbrev pub to_days_made : Computing
to_days_made = amount_made in_days
