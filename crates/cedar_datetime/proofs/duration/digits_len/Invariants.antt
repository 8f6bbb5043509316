use Rattle.std.proofs.Common.{◌≡◌, ◌+◌, length}
use Rattle.std.specs.List.{prefix_len}
use Rattle.std.specs.Char.{is_ascii_digit}
use Rattle.cedar_datetime.proofs.duration.digits_len.Given as goal

abbrev pub invariant-digits : goal.invariant-digits
invariant-digits l =
    (prefix_len is_ascii_digit l.bytes ≡ l.count + prefix_len is_ascii_digit l.rest) × (l.count + length l.rest ≡ length l.bytes)

abbrev pub decreases-digits : goal.decreases-digits
decreases-digits l = length l.rest
