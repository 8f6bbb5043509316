use Rattle.std.proofs.Common.{◌≡◌, ◌+◌, length}
use Rattle.cedar_datetime.specs.Datetime.{begins_as}
use Rattle.cedar_datetime.proofs.datetime.begins_as.Given as goal

abbrev pub invariant-form : goal.invariant-form
invariant-form l =
    (begins_as l.form l.bytes ≡ begins_as l.left l.rest) × (length l.form + length l.rest ≡ length l.bytes + length l.left)

abbrev pub decreases-form : goal.decreases-form
decreases-form l = length l.left
