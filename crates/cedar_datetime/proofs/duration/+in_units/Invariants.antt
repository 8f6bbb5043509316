use Rattle.std.proofs.Common.{length}
use Rattle.cedar_datetime.proofs.duration.+in_units.Given as goal

abbrev pub decreases-in_units : goal.decreases-in_units
decreases-in_units l = length l.units.now
