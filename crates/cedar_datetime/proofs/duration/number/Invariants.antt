use Rattle.std.proofs.Common.{◌≡◌, ◌≤◌, ◌^◌, length}
use Rattle.cedar_datetime.specs.Digits.{number_behind}
use Rattle.cedar_datetime.proofs.duration.number.Given as goal

abbrev pub invariant-digits : goal.invariant-digits
invariant-digits l = (number_behind 0 l.digits ≡ number_behind l.value l.rest) × (l.value ≤ 2 ^ 63)

abbrev pub decreases-digits : goal.decreases-digits
decreases-digits l = length l.rest
