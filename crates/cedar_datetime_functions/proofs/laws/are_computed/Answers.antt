-- By the laws of constructors, and of functions of a key and of two.
use Rattle.std.specs.Prelude.{◌≡◌, Some, ℤ, ◌+ℤ◌, ◌-ℤ◌}
use Rattle.std.proofs.Common.{refl}
use Rattle.cedar_model.specs.Terms.{long_literal}
use Rattle.cedar_model.specs.Failures.{answers_value}
use Rattle.cedar_model.specs.Agreement.{function_answer}
use Rattle.cedar_datetime.specs.Operations.{in_64_bits, last_midnight, since_midnight}
use Rattle.cedar_extension_values.proofs.Literals.{literal_computes}
use Rattle.cedar_datetime_functions.specs.Amounts.{answers_long, gives_long}
use Rattle.cedar_datetime_functions.specs.Constructors.{datetime_key, duration_key}
use Rattle.cedar_datetime_functions.specs.Names.{datetime_name, duration_name, not_a_datetime, not_a_duration}
use Rattle.cedar_datetime_functions.specs.Numbers.{of_number, made_of_number, of_numbers, made_of_numbers, if_within}
use Rattle.cedar_datetime_functions.specs.Numbers.{made_if_within, gives_number, datetime_value, duration_value}
use Rattle.cedar_datetime_functions.proofs.Outcomes.{number_computes, numbers_compute, within_computes}
use Rattle.cedar_datetime_functions.proofs.laws.are_computed.Goals as goal

datetime_computes : (z : ℤ) → function_answer (answers_value (datetime_value z)) ≡ Some (gives_number datetime_name z)
unfolding function_answer
datetime_computes z = refl

duration_computes : (z : ℤ) → function_answer (answers_value (duration_value z)) ≡ Some (gives_number duration_name z)
unfolding function_answer
duration_computes z = refl

pub returns-clause-datetimes : goal.returns-clause-datetimes
returns-clause-datetimes c =
    c.constructors_are_faithful.ensures.computed datetime_name datetime_name datetime_name not_a_datetime datetime_key

pub returns-clause-durations : goal.returns-clause-durations
returns-clause-durations c =
    c.constructors_are_faithful.ensures.computed duration_name duration_name datetime_name not_a_duration duration_key

pub returns-clause-offset : goal.returns-clause-offset
returns-clause-offset c =
    c.functions_of_two_keys.ensures.computed datetime_name duration_name
    (of_numbers (λ z d. if_within datetime_value (in_64_bits (z +ℤ d))))
    (made_of_numbers (λ z d. made_if_within datetime_name (in_64_bits (z +ℤ d))))
    (numbers_compute (λ z d. if_within datetime_value (in_64_bits (z +ℤ d)))
    (λ z d. made_if_within datetime_name (in_64_bits (z +ℤ d)))
    (λ z d. within_computes datetime_value datetime_name datetime_computes (in_64_bits (z +ℤ d))))

pub returns-clause-duration_since : goal.returns-clause-duration_since
returns-clause-duration_since c =
    c.functions_of_two_keys.ensures.computed datetime_name datetime_name
    (of_numbers (λ z e. if_within duration_value (in_64_bits (z -ℤ e))))
    (made_of_numbers (λ z e. made_if_within duration_name (in_64_bits (z -ℤ e))))
    (numbers_compute (λ z e. if_within duration_value (in_64_bits (z -ℤ e)))
    (λ z e. made_if_within duration_name (in_64_bits (z -ℤ e)))
    (λ z e. within_computes duration_value duration_name duration_computes (in_64_bits (z -ℤ e))))

pub returns-clause-to_date : goal.returns-clause-to_date
returns-clause-to_date c =
    c.functions_of_a_key.ensures.computed datetime_name
    (of_number (λ z. if_within datetime_value (last_midnight z)))
    (made_of_number (λ z. made_if_within datetime_name (last_midnight z)))
    (number_computes (λ z. if_within datetime_value (last_midnight z))
    (λ z. made_if_within datetime_name (last_midnight z))
    (λ z. within_computes datetime_value datetime_name datetime_computes (last_midnight z)))

pub returns-clause-to_time : goal.returns-clause-to_time
returns-clause-to_time c =
    c.functions_of_a_key.ensures.computed datetime_name
    (of_number (λ z. answers_value (duration_value (since_midnight z))))
    (made_of_number (λ z. gives_number duration_name (since_midnight z)))
    (number_computes (λ z. answers_value (duration_value (since_midnight z)))
    (λ z. gives_number duration_name (since_midnight z)) (λ z. duration_computes (since_midnight z)))

pub returns-clause-amounts : goal.returns-clause-amounts
returns-clause-amounts c = λ units_in. c.functions_of_a_key.ensures.computed duration_name
    (of_number (λ z. answers_long (units_in z))) (made_of_number (λ z. gives_long (units_in z)))
    (number_computes (λ z. answers_long (units_in z)) (λ z. gives_long (units_in z))
    (λ z. literal_computes (long_literal (units_in z))))
