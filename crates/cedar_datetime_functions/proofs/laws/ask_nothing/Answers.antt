-- By the laws of constructors, and of functions of a key and of two.
use Rattle.std.specs.Prelude.{◌-ℤ◌}
use Rattle.cedar_model.specs.Terms.{long_literal}
use Rattle.cedar_datetime.specs.Operations.{in_64_bits, last_midnight, since_midnight}
use Rattle.cedar_extension_values.proofs.Literals.{literal_asks}
use Rattle.cedar_datetime_functions.specs.Amounts.{gives_long}
use Rattle.cedar_datetime_functions.specs.Constructors.{datetime_key, duration_key}
use Rattle.cedar_datetime_functions.specs.Names.{datetime_name, duration_name}
use Rattle.cedar_datetime_functions.specs.Numbers.{made_of_number, made_of_numbers, made_if_within, gives_number}
use Rattle.cedar_datetime_functions.proofs.Outcomes.{number_asks, numbers_ask, given_asks, within_asks}
use Rattle.cedar_datetime_functions.proofs.Writing.{offset_asks}
use Rattle.cedar_datetime_functions.proofs.laws.ask_nothing.Goals as goal

pub returns-clause-datetimes : goal.returns-clause-datetimes
returns-clause-datetimes c = c.constructors_are_faithful.ensures.nothing_asked datetime_name datetime_key

pub returns-clause-durations : goal.returns-clause-durations
returns-clause-durations c = c.constructors_are_faithful.ensures.nothing_asked duration_name duration_key

pub returns-clause-offset : goal.returns-clause-offset
returns-clause-offset c = offset_asks c.functions_of_two_keys.ensures.nothing_asked

pub returns-clause-duration_since : goal.returns-clause-duration_since
returns-clause-duration_since c =
    c.functions_of_two_keys.ensures.nothing_asked datetime_name datetime_name
    (made_of_numbers (λ z e. made_if_within duration_name (in_64_bits (z -ℤ e))))
    (numbers_ask (λ z e. made_if_within duration_name (in_64_bits (z -ℤ e)))
    (λ z e. within_asks duration_name (in_64_bits (z -ℤ e))))

pub returns-clause-to_date : goal.returns-clause-to_date
returns-clause-to_date c =
    c.functions_of_a_key.ensures.nothing_asked datetime_name
    (made_of_number (λ z. made_if_within datetime_name (last_midnight z)))
    (number_asks (λ z. made_if_within datetime_name (last_midnight z))
    (λ z. within_asks datetime_name (last_midnight z)))

pub returns-clause-to_time : goal.returns-clause-to_time
returns-clause-to_time c =
    c.functions_of_a_key.ensures.nothing_asked datetime_name
    (made_of_number (λ z. gives_number duration_name (since_midnight z)))
    (number_asks (λ z. gives_number duration_name (since_midnight z))
    (λ z. given_asks duration_name (since_midnight z)))

pub returns-clause-amounts : goal.returns-clause-amounts
returns-clause-amounts c = λ units_in. c.functions_of_a_key.ensures.nothing_asked duration_name
    (made_of_number (λ z. gives_long (units_in z)))
    (number_asks (λ z. gives_long (units_in z)) (λ z. literal_asks (long_literal (units_in z))))
