use Rattle.std.proofs.Common.{refl, ap, Some, pos, ◌+ℤ◌, ◌*ℤ◌}
use Rattle.jiff_core.proofs.StandardFacts.{known_days}
use Rattle.cedar_datetime.specs.Datetime.{begins_as, clock, day_at, clock_at, thousandths_at, offset_at, zone_of, in_utc, zoned_time_of, time_of, moment}
use Rattle.cedar_datetime.specs.Duration.{begins_with, in_units, magnitude_of}
use Rattle.cedar_datetime.proofs.laws.texts_are_read.Goals as goal

pub returns-clause-ahead : goal.returns-clause-ahead
unfolding begins_as clock day_at clock_at thousandths_at offset_at zone_of in_utc zoned_time_of time_of moment
returns-clause-ahead c = ap (λ z. Some (z *ℤ pos 86_400_000 +ℤ pos 1)) known_days.3

pub returns-clause-behind : goal.returns-clause-behind
unfolding begins_as clock day_at clock_at thousandths_at offset_at zone_of in_utc zoned_time_of time_of moment
returns-clause-behind c = ap (λ z. Some (z *ℤ pos 86_400_000 +ℤ pos 86_400_000)) known_days.1

pub returns-clause-no_leap_day : goal.returns-clause-no_leap_day
unfolding begins_as day_at moment
returns-clause-no_leap_day c = refl

pub returns-clause-units : goal.returns-clause-units
unfolding begins_with in_units magnitude_of
returns-clause-units c = refl

pub returns-clause-milliseconds : goal.returns-clause-milliseconds
unfolding begins_with in_units magnitude_of
returns-clause-milliseconds c = refl

pub returns-clause-least : goal.returns-clause-least
unfolding begins_with in_units magnitude_of
returns-clause-least c = refl

pub returns-clause-largest : goal.returns-clause-largest
unfolding begins_with in_units magnitude_of
returns-clause-largest c = refl

pub returns-clause-no_unit : goal.returns-clause-no_unit
unfolding begins_with in_units magnitude_of
returns-clause-no_unit c = refl

pub returns-clause-order : goal.returns-clause-order
unfolding begins_with in_units magnitude_of
returns-clause-order c = refl
