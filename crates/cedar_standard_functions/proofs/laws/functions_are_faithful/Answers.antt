-- By the laws of the functions of each extension.
use Rattle.std.specs.Ordering.{is_lt, is_le, is_gt, is_ge}
use Rattle.cedar_ip.specs.Ranges.{ipv4, ipv6}
use Rattle.cedar_ip.specs.Keys.{is_key_of, is_loopback, is_multicast}
use Rattle.cedar_datetime.specs.Operations.{in_seconds, in_minutes, in_hours, in_days}
use Rattle.cedar_standard_functions.specs.declared.function.StandardFunction.TheVariants as functions
use Rattle.cedar_standard_functions.proofs.laws.functions_are_faithful.Goals as goal

pub returns : goal.returns
returns c X ans h functions.Decimal = c.are_faithful.ensures.decimals X ans (h functions.Decimal)
returns c X ans h functions.LessThan = c.are_faithful.ensures.comparisons X ans is_lt
returns c X ans h functions.LessThanOrEqual = c.are_faithful.ensures.comparisons X ans is_le
returns c X ans h functions.GreaterThan = c.are_faithful.ensures.comparisons X ans is_gt
returns c X ans h functions.GreaterThanOrEqual = c.are_faithful.ensures.comparisons X ans is_ge
returns c X ans h functions.Ip = c.are_faithful-2.ensures.ranges X ans (h functions.Ip)
returns c X ans h functions.IsIpv4 = c.are_faithful-2.ensures.questions X ans (is_key_of ipv4)
returns c X ans h functions.IsIpv6 = c.are_faithful-2.ensures.questions X ans (is_key_of ipv6)
returns c X ans h functions.IsLoopback = c.are_faithful-2.ensures.questions X ans is_loopback
returns c X ans h functions.IsMulticast = c.are_faithful-2.ensures.questions X ans is_multicast
returns c X ans h functions.IsInRange = c.are_faithful-2.ensures.in_range X ans
returns c X ans h functions.Datetime = c.are_faithful-3.ensures.datetimes X ans (h functions.Datetime)
returns c X ans h functions.Duration = c.are_faithful-3.ensures.durations X ans (h functions.Duration)
returns c X ans h functions.Offset =
    c.are_faithful-3.ensures.offset X ans (h functions.Datetime) (h functions.Duration) (h functions.Offset)
returns c X ans h functions.DurationSince = c.are_faithful-3.ensures.duration_since X ans (h functions.Duration)
returns c X ans h functions.ToDate =
    c.are_faithful-3.ensures.to_date X ans (h functions.Datetime) (h functions.Duration) (h functions.Offset)
returns c X ans h functions.ToTime = c.are_faithful-3.ensures.to_time X ans (h functions.Duration)
returns c X ans h functions.ToMilliseconds = c.are_faithful-3.ensures.amounts X ans (λ z. z)
returns c X ans h functions.ToSeconds = c.are_faithful-3.ensures.amounts X ans in_seconds
returns c X ans h functions.ToMinutes = c.are_faithful-3.ensures.amounts X ans in_minutes
returns c X ans h functions.ToHours = c.are_faithful-3.ensures.amounts X ans in_hours
returns c X ans h functions.ToDays = c.are_faithful-3.ensures.amounts X ans in_days
