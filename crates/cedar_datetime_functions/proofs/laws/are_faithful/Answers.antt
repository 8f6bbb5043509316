-- By the laws of constructors and of functions of keys, and by those of values that are written by texts.
use Rattle.std.specs.Prelude.{◌+ℤ◌, ◌-ℤ◌}
use Rattle.cedar_model.specs.Terms.{long_literal}
use Rattle.cedar_model.specs.Failures.{function_has_failed, answers_value}
use Rattle.cedar_model.specs.Agreement.{IsFaithful}
use Rattle.cedar_datetime.specs.Operations.{in_64_bits, last_midnight, since_midnight}
use Rattle.cedar_extension_values.proofs.Literals.{literal_faithful}
use Rattle.cedar_datetime_functions.specs.Amounts.{answers_long}
use Rattle.cedar_datetime_functions.specs.Constructors.{datetime_key, duration_key}
use Rattle.cedar_datetime_functions.specs.Names.{datetime_name, duration_name, not_a_datetime, not_a_duration}
use Rattle.cedar_datetime_functions.specs.Numbers.{of_number, of_numbers, if_within, datetime_value}
use Rattle.cedar_datetime_functions.specs.Numbers.{duration_value}
use Rattle.cedar_datetime_functions.proofs.Outcomes.{number_gives, numbers_give, value_gives, within_gives}
use Rattle.cedar_datetime_functions.proofs.Writing.{duration_faithful, datetime_faithful, time_fits}
use Rattle.cedar_datetime_functions.proofs.laws.are_faithful.Goals as goal

pub returns-clause-datetimes : goal.returns-clause-datetimes
returns-clause-datetimes c = λ X ans has.
    c.constructors_are_faithful.ensures.faithful X ans datetime_name datetime_name
    (function_has_failed datetime_name not_a_datetime) datetime_key has

pub returns-clause-durations : goal.returns-clause-durations
returns-clause-durations c = λ X ans has.
    c.constructors_are_faithful.ensures.faithful X ans duration_name duration_name
    (function_has_failed datetime_name not_a_duration) duration_key has

pub returns-clause-offset : goal.returns-clause-offset
returns-clause-offset c = λ X ans datetimes durations offsets.
    c.functions_of_two_keys.ensures.faithful X ans datetime_name duration_name
    (of_numbers (λ z d. if_within datetime_value (in_64_bits (z +ℤ d))))
    (numbers_give (λ z d. if_within datetime_value (in_64_bits (z +ℤ d))) (IsFaithful X ans)
    (λ z d. within_gives datetime_value (IsFaithful X ans)
    (datetime_faithful c.written_values_are_faithful.ensures.offsets
    c.constructors_are_faithful.ensures.nothing_asked c.functions_of_two_keys.ensures.nothing_asked
    c.written_durations_are_read.ensures.read c.written_durations_are_read.ensures.epoch
    c.keys_are_read_back.ensures.value c.written_durations_are_read.ensures.offset X ans datetimes durations offsets)
    (z +ℤ d)))

pub returns-clause-duration_since : goal.returns-clause-duration_since
returns-clause-duration_since c = λ X ans has.
    c.functions_of_two_keys.ensures.faithful X ans datetime_name datetime_name
    (of_numbers (λ z e. if_within duration_value (in_64_bits (z -ℤ e))))
    (numbers_give (λ z e. if_within duration_value (in_64_bits (z -ℤ e))) (IsFaithful X ans)
    (λ z e. within_gives duration_value (IsFaithful X ans)
    (duration_faithful c.written_values_are_faithful.ensures.constructed
    c.constructors_are_faithful.ensures.nothing_asked c.written_durations_are_read.ensures.read X ans has)
    (z -ℤ e)))

pub returns-clause-to_date : goal.returns-clause-to_date
returns-clause-to_date c = λ X ans datetimes durations offsets.
    c.functions_of_a_key.ensures.faithful X ans datetime_name
    (of_number (λ z. if_within datetime_value (last_midnight z)))
    (number_gives (λ z. if_within datetime_value (last_midnight z)) (IsFaithful X ans)
    (λ z. within_gives datetime_value (IsFaithful X ans)
    (datetime_faithful c.written_values_are_faithful.ensures.offsets
    c.constructors_are_faithful.ensures.nothing_asked c.functions_of_two_keys.ensures.nothing_asked
    c.written_durations_are_read.ensures.read c.written_durations_are_read.ensures.epoch
    c.keys_are_read_back.ensures.value c.written_durations_are_read.ensures.offset X ans datetimes durations offsets)
    (z -ℤ since_midnight z)))

pub returns-clause-to_time : goal.returns-clause-to_time
returns-clause-to_time c = λ X ans has.
    c.functions_of_a_key.ensures.faithful X ans datetime_name
    (of_number (λ z. answers_value (duration_value (since_midnight z))))
    (number_gives (λ z. answers_value (duration_value (since_midnight z))) (IsFaithful X ans)
    (λ z. value_gives (IsFaithful X ans) (duration_value (since_midnight z))
    (duration_faithful c.written_values_are_faithful.ensures.constructed
    c.constructors_are_faithful.ensures.nothing_asked c.written_durations_are_read.ensures.read X ans has
    (since_midnight z) (time_fits (since_midnight z) (c.dates_and_times_make_up_datetimes.ensures.time z)))))

pub returns-clause-amounts : goal.returns-clause-amounts
returns-clause-amounts c = λ X ans units_in. c.functions_of_a_key.ensures.faithful X ans duration_name
    (of_number (λ z. answers_long (units_in z)))
    (number_gives (λ z. answers_long (units_in z)) (IsFaithful X ans)
    (λ z. literal_faithful X ans (long_literal (units_in z))))
