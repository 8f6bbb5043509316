-- Which duration a text writes, in milliseconds.
use Rattle.std.specs.Prelude.{ℕ, ◌+◌, ◌*◌, ◌^◌, Bool, not, ◌&&◌, ◌==◌, if◌then◌else◌, nat_le, nat_lt, List, [], ◌∷◌, ◌++◌, length, drop, codes, Option, Some, None, ℤ, pos, neg_ℤ}
use Rattle.std.specs.List.{take_while, prefix_len, before_first, position_or_len}
use Rattle.std.specs.Char.{is_ascii_digit}
use Rattle.std.specs.Str.{bytes_eq}
use Rattle.std.specs.Fmt.{signed_decimal}
use Rattle.cedar_datetime.specs.declared.duration.Unit.{Unit}
use Rattle.cedar_datetime.specs.declared.duration.Unit.TheVariants.{Days, Hours, Minutes, Seconds, Milliseconds}
use Rattle.cedar_datetime.specs.Digits.{number}

-- the units, in the order in which they may stand
abbrev pub units : List Unit
units = Days ∷ Hours ∷ Minutes ∷ Seconds ∷ Milliseconds ∷ []

-- how a unit is written
abbrev pub letters_of : Unit → List ℕ
letters_of Days = codes "d"
letters_of Hours = codes "h"
letters_of Minutes = codes "m"
letters_of Seconds = codes "s"
letters_of Milliseconds = codes "ms"

-- its milliseconds
abbrev pub milliseconds_of : Unit → ℕ
milliseconds_of Days = 86_400_000
milliseconds_of Hours = 3_600_000
milliseconds_of Minutes = 60_000
milliseconds_of Seconds = 1000
milliseconds_of Milliseconds = 1

-- the digits that the text begins with, and what stands behind them
abbrev pub digits : List ℕ → List ℕ
digits bs = take_while is_ascii_digit bs

abbrev pub behind_digits : List ℕ → List ℕ
behind_digits bs = drop (prefix_len is_ascii_digit bs) bs

-- what stands in front of the next digit, and from that digit on
abbrev pub letters : List ℕ → List ℕ
letters bs = before_first is_ascii_digit bs

abbrev pub behind_letters : List ℕ → List ℕ
behind_letters bs = drop (position_or_len is_ascii_digit bs) bs

-- the text begins with digits, and between them and the next digit stands this unit
unfoldable pub begins_with : Unit → List ℕ → Bool
begins_with unit bs = not (length (digits bs) == 0) && bytes_eq (letters (behind_digits bs)) (letters_of unit)

-- so much of the unit, and the rest
abbrev pub more_of : ℕ → Option ℕ → Option ℕ
more_of n None = None
more_of n (Some rest) = Some (n + rest)

-- the milliseconds of a text in which these units may stand, each once
unfoldable pub in_units : List Unit → List ℕ → Option ℕ
in_units [] bs = if length bs == 0 then Some 0 else None
in_units (unit ∷ smaller) bs =
    if begins_with unit bs
    then more_of (number (digits bs) * milliseconds_of unit) (in_units smaller (behind_letters (behind_digits bs)))
    else in_units smaller bs

-- the number, where it is no larger than the least of 64 bits is below zero
abbrev pub capped : ℕ → Option ℕ
capped n = if nat_le n (2 ^ 63) then Some n else None

abbrev pub within : Option ℕ → Option ℕ
within None = None
within (Some n) = capped n

-- the milliseconds of a text without a sign: of one unit or more
unfoldable pub magnitude_of : List ℕ → Option ℕ
magnitude_of bs = if length bs == 0 then None else within (in_units units bs)

-- below a minus; and without one, where 2 ^ 63 is too large
abbrev pub negative : Option ℕ → Option ℤ
negative None = None
negative (Some n) = Some (neg_ℤ (pos n))

abbrev pub positive : Option ℕ → Option ℤ
positive None = None
positive (Some n) = if nat_lt n (2 ^ 63) then Some (pos n) else None

-- the duration that the text writes, if it writes one
abbrev pub duration_of : List ℕ → Option ℤ
duration_of [] = None
duration_of (c ∷ cs) = if c == 45 then negative (magnitude_of cs) else positive (magnitude_of (c ∷ cs))

-- how a number of milliseconds is written
abbrev pub written : ℤ → List ℕ
written z = signed_decimal z ++ codes "ms"
