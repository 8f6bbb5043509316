-- The names of the functions of dates, times and durations, and what their errors say.
use Rattle.std.specs.Prelude.{codes}
use Rattle.cedar_model.specs.Terms.{Text}

-- the name of the extension, of the type of datetimes and of its constructor
abbrev pub datetime_name : Text
datetime_name = codes "datetime"

-- of the type of durations and of its constructor
abbrev pub duration_name : Text
duration_name = codes "duration"

-- of the function by which computed datetimes are written
abbrev pub offset_name : Text
offset_name = codes "offset"

abbrev pub not_a_datetime : Text
not_a_datetime = codes "not a date `YYYY-MM-DD`, alone or with a time and a zone"

abbrev pub not_a_duration : Text
not_a_duration = codes "not a duration as `1d2h3m4s5ms`, within 64 bits of milliseconds"

abbrev pub beyond_64_bits : Text
beyond_64_bits = codes "the answer is not within 64 bits of milliseconds"

-- of a value that no function of the extension makes
abbrev pub not_eight_bytes : Text
not_eight_bytes = codes "the key of a datetime or duration is not eight bytes"
