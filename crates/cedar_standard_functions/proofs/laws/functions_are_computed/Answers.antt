-- By the laws of the functions of each extension.
use Rattle.std.specs.Ordering.{is_lt, is_le, is_gt, is_ge}
use Rattle.cedar_ip.specs.Ranges.{ipv4, ipv6}
use Rattle.cedar_ip.specs.Keys.{is_key_of, is_loopback, is_multicast}
use Rattle.cedar_datetime.specs.Operations.{in_seconds, in_minutes, in_hours, in_days}
use Rattle.cedar_standard_functions.specs.declared.function.StandardFunction.TheVariants as functions
use Rattle.cedar_standard_functions.proofs.laws.functions_are_computed.Goals as goal

pub returns-clause-computed : goal.returns-clause-computed
returns-clause-computed c functions.Decimal = c.are_computed.ensures.decimals
returns-clause-computed c functions.LessThan = c.are_computed.ensures.comparisons is_lt
returns-clause-computed c functions.LessThanOrEqual = c.are_computed.ensures.comparisons is_le
returns-clause-computed c functions.GreaterThan = c.are_computed.ensures.comparisons is_gt
returns-clause-computed c functions.GreaterThanOrEqual = c.are_computed.ensures.comparisons is_ge
returns-clause-computed c functions.Ip = c.are_computed-2.ensures.ranges
returns-clause-computed c functions.IsIpv4 = c.are_computed-2.ensures.questions (is_key_of ipv4)
returns-clause-computed c functions.IsIpv6 = c.are_computed-2.ensures.questions (is_key_of ipv6)
returns-clause-computed c functions.IsLoopback = c.are_computed-2.ensures.questions is_loopback
returns-clause-computed c functions.IsMulticast = c.are_computed-2.ensures.questions is_multicast
returns-clause-computed c functions.IsInRange = c.are_computed-2.ensures.in_range
returns-clause-computed c functions.Datetime = c.are_computed-3.ensures.datetimes
returns-clause-computed c functions.Duration = c.are_computed-3.ensures.durations
returns-clause-computed c functions.Offset = c.are_computed-3.ensures.offset
returns-clause-computed c functions.DurationSince = c.are_computed-3.ensures.duration_since
returns-clause-computed c functions.ToDate = c.are_computed-3.ensures.to_date
returns-clause-computed c functions.ToTime = c.are_computed-3.ensures.to_time
returns-clause-computed c functions.ToMilliseconds = c.are_computed-3.ensures.amounts (λ z. z)
returns-clause-computed c functions.ToSeconds = c.are_computed-3.ensures.amounts in_seconds
returns-clause-computed c functions.ToMinutes = c.are_computed-3.ensures.amounts in_minutes
returns-clause-computed c functions.ToHours = c.are_computed-3.ensures.amounts in_hours
returns-clause-computed c functions.ToDays = c.are_computed-3.ensures.amounts in_days

pub returns-clause-nothing_asked : goal.returns-clause-nothing_asked
returns-clause-nothing_asked c functions.Decimal = c.ask_nothing.ensures.decimals
returns-clause-nothing_asked c functions.LessThan = c.ask_nothing.ensures.comparisons is_lt
returns-clause-nothing_asked c functions.LessThanOrEqual = c.ask_nothing.ensures.comparisons is_le
returns-clause-nothing_asked c functions.GreaterThan = c.ask_nothing.ensures.comparisons is_gt
returns-clause-nothing_asked c functions.GreaterThanOrEqual = c.ask_nothing.ensures.comparisons is_ge
returns-clause-nothing_asked c functions.Ip = c.ask_nothing-2.ensures.ranges
returns-clause-nothing_asked c functions.IsIpv4 = c.ask_nothing-2.ensures.questions (is_key_of ipv4)
returns-clause-nothing_asked c functions.IsIpv6 = c.ask_nothing-2.ensures.questions (is_key_of ipv6)
returns-clause-nothing_asked c functions.IsLoopback = c.ask_nothing-2.ensures.questions is_loopback
returns-clause-nothing_asked c functions.IsMulticast = c.ask_nothing-2.ensures.questions is_multicast
returns-clause-nothing_asked c functions.IsInRange = c.ask_nothing-2.ensures.in_range
returns-clause-nothing_asked c functions.Datetime = c.ask_nothing-3.ensures.datetimes
returns-clause-nothing_asked c functions.Duration = c.ask_nothing-3.ensures.durations
returns-clause-nothing_asked c functions.Offset = c.ask_nothing-3.ensures.offset
returns-clause-nothing_asked c functions.DurationSince = c.ask_nothing-3.ensures.duration_since
returns-clause-nothing_asked c functions.ToDate = c.ask_nothing-3.ensures.to_date
returns-clause-nothing_asked c functions.ToTime = c.ask_nothing-3.ensures.to_time
returns-clause-nothing_asked c functions.ToMilliseconds = c.ask_nothing-3.ensures.amounts (λ z. z)
returns-clause-nothing_asked c functions.ToSeconds = c.ask_nothing-3.ensures.amounts in_seconds
returns-clause-nothing_asked c functions.ToMinutes = c.ask_nothing-3.ensures.amounts in_minutes
returns-clause-nothing_asked c functions.ToHours = c.ask_nothing-3.ensures.amounts in_hours
returns-clause-nothing_asked c functions.ToDays = c.ask_nothing-3.ensures.amounts in_days
