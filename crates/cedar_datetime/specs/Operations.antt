-- What the methods of datetimes and durations answer, on milliseconds.
use Rattle.std.specs.Prelude.{◌^◌, Bool, if◌then◌else◌, nat_lt, Option, Some, None, ℤ, pos, negsuc, ◌-ℤ◌}
use Rattle.std.specs.Int.{int_rem_euclid}
use Rattle.std.specs.Int.RustNames.{int_div}

-- the number is within 64 bits
abbrev pub is_64_bits : ℤ → Bool
is_64_bits (pos n) = nat_lt n (2 ^ 63)
is_64_bits (negsuc n) = nat_lt n (2 ^ 63)

-- the number, where it is
abbrev pub in_64_bits : ℤ → Option ℤ
in_64_bits z = if is_64_bits z then Some z else None

-- what is left above the last midnight: never negative, and below a day
abbrev pub since_midnight : ℤ → ℤ
since_midnight z = int_rem_euclid z (pos 86_400_000)

-- the last midnight
abbrev pub last_midnight : ℤ → Option ℤ
last_midnight z = in_64_bits (z -ℤ since_midnight z)

-- whole units of a duration, cut towards zero
abbrev pub in_seconds : ℤ → ℤ
in_seconds z = int_div z (pos 1000)

abbrev pub in_minutes : ℤ → ℤ
in_minutes z = int_div z (pos 60_000)

abbrev pub in_hours : ℤ → ℤ
in_hours z = int_div z (pos 3_600_000)

abbrev pub in_days : ℤ → ℤ
in_days z = int_div z (pos 86_400_000)
