-- What the constructors `datetime` and `duration` answer and compute.
use Rattle.std.specs.Prelude.{ℕ, List, Option, option_map}
use Rattle.cedar_model.specs.Terms.{Text}
use Rattle.cedar_model.specs.Failures.{function_has_failed}
use Rattle.cedar_datetime.specs.Datetime.{datetime_of}
use Rattle.cedar_datetime.specs.Duration.{duration_of}
use Rattle.cedar_datetime.specs.Keys.{key}
use Rattle.cedar_extension_values.specs.Functions.{Answering, of_constructor, Computing, made_by_constructor}
use Rattle.cedar_datetime_functions.specs.Names.{datetime_name, duration_name, not_a_datetime, not_a_duration}

-- the key of the datetime that the text writes, if it writes one
abbrev pub datetime_key : Text → Option (List ℕ)
datetime_key text = option_map key (datetime_of text)

-- that datetime, written as the call on the text
abbrev pub datetime_answer : Answering
datetime_answer =
    of_constructor datetime_name datetime_name (function_has_failed datetime_name not_a_datetime) datetime_key

abbrev pub datetime_made : Computing
datetime_made = made_by_constructor datetime_name datetime_key

-- the key of the duration that the text writes, if it writes one
abbrev pub duration_key : Text → Option (List ℕ)
duration_key text = option_map key (duration_of text)

-- that duration, written as the call on the text
abbrev pub duration_answer : Answering
duration_answer =
    of_constructor duration_name duration_name (function_has_failed datetime_name not_a_duration) duration_key

abbrev pub duration_made : Computing
duration_made = made_by_constructor duration_name duration_key
