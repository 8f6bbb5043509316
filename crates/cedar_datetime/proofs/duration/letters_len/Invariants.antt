use Rattle.std.proofs.Common.{◌≡◌, ◌+◌, length}
use Rattle.std.specs.List.{position_or_len}
use Rattle.std.specs.Char.{is_ascii_digit}
use Rattle.cedar_datetime.proofs.duration.letters_len.Given as goal

abbrev pub invariant-letters : goal.invariant-letters
invariant-letters l =
    (position_or_len is_ascii_digit l.bytes ≡ l.count + position_or_len is_ascii_digit l.rest) × (l.count + length l.rest ≡ length l.bytes)

abbrev pub decreases-letters : goal.decreases-letters
decreases-letters l = length l.rest
