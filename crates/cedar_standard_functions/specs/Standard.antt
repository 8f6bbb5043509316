-- The standard functions: their names, what they take and return, what they answer to values, and what they compute.
use Rattle.std.specs.Prelude.{Bool, List, [], ◌∷◌, length, codes, Option, Some, None}
use Rattle.std.specs.List.{find}
use Rattle.cedar_model.specs.Terms.{Text, ValueType, bool_type, long_type, string_type}
use Rattle.cedar_model.specs.Outcomes.{text_eq, function_does_not_exist}
use Rattle.cedar_model.specs.World.{Extensions, Functions, function_errs}
use Rattle.cedar_names.specs.declared.names.CallStyle.{CallStyle}
use Rattle.cedar_names.specs.declared.names.CallStyle.TheVariants.{FunctionStyle, MethodStyle}
use Rattle.cedar_extension_values.specs.Functions.{Answering, Computing, HasFunction}
use Rattle.cedar_decimal_functions.specs.Decimals.{decimal_answer, decimal_made}
use Rattle.cedar_decimal_functions.specs.Comparisons.{less_than_answer, less_than_made}
use Rattle.cedar_decimal_functions.specs.Comparisons.{less_than_or_equal_answer, less_than_or_equal_made}
use Rattle.cedar_decimal_functions.specs.Comparisons.{greater_than_answer, greater_than_made}
use Rattle.cedar_decimal_functions.specs.Comparisons.{greater_than_or_equal_answer, greater_than_or_equal_made}
use Rattle.cedar_ip_functions.specs.Ranges.{ip_answer, ip_made}
use Rattle.cedar_ip_functions.specs.Questions.{is_ipv4_answer, is_ipv4_made, is_ipv6_answer, is_ipv6_made}
use Rattle.cedar_ip_functions.specs.Questions.{is_loopback_answer, is_loopback_made, is_multicast_answer}
use Rattle.cedar_ip_functions.specs.Questions.{is_multicast_made, is_in_range_answer, is_in_range_made}
use Rattle.cedar_datetime_functions.specs.Constructors.{datetime_answer, datetime_made, duration_answer, duration_made}
use Rattle.cedar_datetime_functions.specs.Operations.{offset_answer, offset_made, duration_since_answer}
use Rattle.cedar_datetime_functions.specs.Operations.{duration_since_made, to_date_answer, to_date_made, to_time_answer}
use Rattle.cedar_datetime_functions.specs.Operations.{to_time_made}
use Rattle.cedar_datetime_functions.specs.Amounts.{to_milliseconds_answer, to_milliseconds_made, to_seconds_answer}
use Rattle.cedar_datetime_functions.specs.Amounts.{to_seconds_made, to_minutes_answer, to_minutes_made, to_hours_answer}
use Rattle.cedar_datetime_functions.specs.Amounts.{to_hours_made, to_days_answer, to_days_made}
use Rattle.cedar_standard_functions.specs.Kinds.{decimal_type, ipaddr_type, datetime_type, duration_type}
use Rattle.cedar_standard_functions.specs.declared.function.StandardFunction.{StandardFunction}
use Rattle.cedar_standard_functions.specs.declared.function.StandardFunction.TheVariants as functions

-- those of `decimal`, of `ipaddr` and of `datetime`
abbrev pub all_standard : List StandardFunction
all_standard =
    functions.Decimal ∷ functions.LessThan ∷ functions.LessThanOrEqual ∷ functions.GreaterThan ∷
    functions.GreaterThanOrEqual ∷ functions.Ip ∷ functions.IsIpv4 ∷ functions.IsIpv6 ∷ functions.IsLoopback ∷
    functions.IsMulticast ∷ functions.IsInRange ∷ functions.Datetime ∷ functions.Duration ∷ functions.Offset ∷
    functions.DurationSince ∷ functions.ToDate ∷ functions.ToTime ∷ functions.ToMilliseconds ∷
    functions.ToSeconds ∷ functions.ToMinutes ∷ functions.ToHours ∷ functions.ToDays ∷ []

-- its name
abbrev pub name_of : StandardFunction → Text
name_of functions.Decimal = codes "decimal"
name_of functions.LessThan = codes "lessThan"
name_of functions.LessThanOrEqual = codes "lessThanOrEqual"
name_of functions.GreaterThan = codes "greaterThan"
name_of functions.GreaterThanOrEqual = codes "greaterThanOrEqual"
name_of functions.Ip = codes "ip"
name_of functions.IsIpv4 = codes "isIpv4"
name_of functions.IsIpv6 = codes "isIpv6"
name_of functions.IsLoopback = codes "isLoopback"
name_of functions.IsMulticast = codes "isMulticast"
name_of functions.IsInRange = codes "isInRange"
name_of functions.Datetime = codes "datetime"
name_of functions.Duration = codes "duration"
name_of functions.Offset = codes "offset"
name_of functions.DurationSince = codes "durationSince"
name_of functions.ToDate = codes "toDate"
name_of functions.ToTime = codes "toTime"
name_of functions.ToMilliseconds = codes "toMilliseconds"
name_of functions.ToSeconds = codes "toSeconds"
name_of functions.ToMinutes = codes "toMinutes"
name_of functions.ToHours = codes "toHours"
name_of functions.ToDays = codes "toDays"

-- how it is called
abbrev pub style_of : StandardFunction → CallStyle
style_of functions.Decimal = FunctionStyle
style_of functions.LessThan = MethodStyle
style_of functions.LessThanOrEqual = MethodStyle
style_of functions.GreaterThan = MethodStyle
style_of functions.GreaterThanOrEqual = MethodStyle
style_of functions.Ip = FunctionStyle
style_of functions.IsIpv4 = MethodStyle
style_of functions.IsIpv6 = MethodStyle
style_of functions.IsLoopback = MethodStyle
style_of functions.IsMulticast = MethodStyle
style_of functions.IsInRange = MethodStyle
style_of functions.Datetime = FunctionStyle
style_of functions.Duration = FunctionStyle
style_of functions.Offset = MethodStyle
style_of functions.DurationSince = MethodStyle
style_of functions.ToDate = MethodStyle
style_of functions.ToTime = MethodStyle
style_of functions.ToMilliseconds = MethodStyle
style_of functions.ToSeconds = MethodStyle
style_of functions.ToMinutes = MethodStyle
style_of functions.ToHours = MethodStyle
style_of functions.ToDays = MethodStyle

-- the types of its arguments
abbrev pub takes : StandardFunction → List ValueType
takes functions.Decimal = string_type ∷ []
takes functions.LessThan = decimal_type ∷ decimal_type ∷ []
takes functions.LessThanOrEqual = decimal_type ∷ decimal_type ∷ []
takes functions.GreaterThan = decimal_type ∷ decimal_type ∷ []
takes functions.GreaterThanOrEqual = decimal_type ∷ decimal_type ∷ []
takes functions.Ip = string_type ∷ []
takes functions.IsIpv4 = ipaddr_type ∷ []
takes functions.IsIpv6 = ipaddr_type ∷ []
takes functions.IsLoopback = ipaddr_type ∷ []
takes functions.IsMulticast = ipaddr_type ∷ []
takes functions.IsInRange = ipaddr_type ∷ ipaddr_type ∷ []
takes functions.Datetime = string_type ∷ []
takes functions.Duration = string_type ∷ []
takes functions.Offset = datetime_type ∷ duration_type ∷ []
takes functions.DurationSince = datetime_type ∷ datetime_type ∷ []
takes functions.ToDate = datetime_type ∷ []
takes functions.ToTime = datetime_type ∷ []
takes functions.ToMilliseconds = duration_type ∷ []
takes functions.ToSeconds = duration_type ∷ []
takes functions.ToMinutes = duration_type ∷ []
takes functions.ToHours = duration_type ∷ []
takes functions.ToDays = duration_type ∷ []

-- the type of what it answers
abbrev pub returns : StandardFunction → ValueType
returns functions.Decimal = decimal_type
returns functions.LessThan = bool_type
returns functions.LessThanOrEqual = bool_type
returns functions.GreaterThan = bool_type
returns functions.GreaterThanOrEqual = bool_type
returns functions.Ip = ipaddr_type
returns functions.IsIpv4 = bool_type
returns functions.IsIpv6 = bool_type
returns functions.IsLoopback = bool_type
returns functions.IsMulticast = bool_type
returns functions.IsInRange = bool_type
returns functions.Datetime = datetime_type
returns functions.Duration = duration_type
returns functions.Offset = datetime_type
returns functions.DurationSince = duration_type
returns functions.ToDate = datetime_type
returns functions.ToTime = duration_type
returns functions.ToMilliseconds = long_type
returns functions.ToSeconds = long_type
returns functions.ToMinutes = long_type
returns functions.ToHours = long_type
returns functions.ToDays = long_type

-- what it answers to values
abbrev pub answer_of : StandardFunction → Answering
answer_of functions.Decimal = decimal_answer
answer_of functions.LessThan = less_than_answer
answer_of functions.LessThanOrEqual = less_than_or_equal_answer
answer_of functions.GreaterThan = greater_than_answer
answer_of functions.GreaterThanOrEqual = greater_than_or_equal_answer
answer_of functions.Ip = ip_answer
answer_of functions.IsIpv4 = is_ipv4_answer
answer_of functions.IsIpv6 = is_ipv6_answer
answer_of functions.IsLoopback = is_loopback_answer
answer_of functions.IsMulticast = is_multicast_answer
answer_of functions.IsInRange = is_in_range_answer
answer_of functions.Datetime = datetime_answer
answer_of functions.Duration = duration_answer
answer_of functions.Offset = offset_answer
answer_of functions.DurationSince = duration_since_answer
answer_of functions.ToDate = to_date_answer
answer_of functions.ToTime = to_time_answer
answer_of functions.ToMilliseconds = to_milliseconds_answer
answer_of functions.ToSeconds = to_seconds_answer
answer_of functions.ToMinutes = to_minutes_answer
answer_of functions.ToHours = to_hours_answer
answer_of functions.ToDays = to_days_answer

-- what it computes: the same without representations and without the fields of errors
abbrev pub made_of : StandardFunction → Computing
made_of functions.Decimal = decimal_made
made_of functions.LessThan = less_than_made
made_of functions.LessThanOrEqual = less_than_or_equal_made
made_of functions.GreaterThan = greater_than_made
made_of functions.GreaterThanOrEqual = greater_than_or_equal_made
made_of functions.Ip = ip_made
made_of functions.IsIpv4 = is_ipv4_made
made_of functions.IsIpv6 = is_ipv6_made
made_of functions.IsLoopback = is_loopback_made
made_of functions.IsMulticast = is_multicast_made
made_of functions.IsInRange = is_in_range_made
made_of functions.Datetime = datetime_made
made_of functions.Duration = duration_made
made_of functions.Offset = offset_made
made_of functions.DurationSince = duration_since_made
made_of functions.ToDate = to_date_made
made_of functions.ToTime = to_time_made
made_of functions.ToMilliseconds = to_milliseconds_made
made_of functions.ToSeconds = to_seconds_made
made_of functions.ToMinutes = to_minutes_made
made_of functions.ToHours = to_hours_made
made_of functions.ToDays = to_days_made

-- ---- by name

abbrev pub has_name : Text → StandardFunction → Bool
has_name n f = text_eq (name_of f) n

-- the first of these that has this name
abbrev pub among : Text → List StandardFunction → Option StandardFunction
among n fs = find (has_name n) fs

-- the standard function of this name
abbrev pub standard_named : Text → Option StandardFunction
standard_named n = among n all_standard

abbrev pub made_by : Option StandardFunction → Computing
made_by None vs = function_errs function_does_not_exist
made_by (Some f) vs = made_of f vs

-- what the standard functions answer, and no others
abbrev pub standard_answers : Functions
standard_answers n = made_by (standard_named n)

-- the functions of a world are the standard ones, under their names
abbrev pub HaveStandard : Extensions → Functions → Type 0
HaveStandard X ans = (f : StandardFunction) → HasFunction X ans (name_of f) (length (takes f)) (made_of f)
