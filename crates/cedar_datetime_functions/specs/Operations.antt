-- What the functions that make datetimes and durations of others answer and compute.
use Rattle.std.specs.Prelude.{◌+ℤ◌, ◌-ℤ◌}
use Rattle.cedar_model.specs.Failures.{answers_value}
use Rattle.cedar_datetime.specs.Operations.{in_64_bits, last_midnight, since_midnight}
use Rattle.cedar_extension_values.specs.Functions.{Answering, of_key, of_keys, Computing, made_of_key, made_of_keys}
use Rattle.cedar_datetime_functions.specs.Names.{datetime_name, duration_name}
use Rattle.cedar_datetime_functions.specs.Numbers.{of_number, made_of_number, of_numbers, made_of_numbers}
use Rattle.cedar_datetime_functions.specs.Numbers.{datetime_value, duration_value, if_within, gives_number}
use Rattle.cedar_datetime_functions.specs.Numbers.{made_if_within}

-- the datetime that is the duration later
abbrev pub offset_answer : Answering
offset_answer =
    of_keys datetime_name duration_name (of_numbers (λ z d. if_within datetime_value (in_64_bits (z +ℤ d))))

abbrev pub offset_made : Computing
offset_made =
    made_of_keys datetime_name duration_name
    (made_of_numbers (λ z d. made_if_within datetime_name (in_64_bits (z +ℤ d))))

-- the duration from the second datetime to the first
abbrev pub duration_since_answer : Answering
duration_since_answer =
    of_keys datetime_name datetime_name (of_numbers (λ z e. if_within duration_value (in_64_bits (z -ℤ e))))

abbrev pub duration_since_made : Computing
duration_since_made =
    made_of_keys datetime_name datetime_name
    (made_of_numbers (λ z e. made_if_within duration_name (in_64_bits (z -ℤ e))))

-- the last midnight that is not after the datetime
abbrev pub to_date_answer : Answering
to_date_answer = of_key datetime_name (of_number (λ z. if_within datetime_value (last_midnight z)))

abbrev pub to_date_made : Computing
to_date_made = made_of_key datetime_name (made_of_number (λ z. made_if_within datetime_name (last_midnight z)))

-- the duration since that midnight
abbrev pub to_time_answer : Answering
to_time_answer = of_key datetime_name (of_number (λ z. answers_value (duration_value (since_midnight z))))

abbrev pub to_time_made : Computing
to_time_made = made_of_key datetime_name (made_of_number (λ z. gives_number duration_name (since_midnight z)))
