-- How many of a unit a number of milliseconds has.
use Rattle.std.specs.Prelude.{ℤ}
use Rattle.cedar_datetime.specs.Operations.{in_seconds, in_minutes, in_hours, in_days}
use Rattle.cedar_datetime_functions.specs.declared.amounts.TimeUnit.{TimeUnit}
use Rattle.cedar_datetime_functions.specs.declared.amounts.TimeUnit.TheVariants as by

abbrev pub units_in : TimeUnit → ℤ → ℤ
units_in by.Milliseconds z = z
units_in by.Seconds z = in_seconds z
units_in by.Minutes z = in_minutes z
units_in by.Hours z = in_hours z
units_in by.Days z = in_days z
