-- Eight bytes that tell numbers of milliseconds apart and order them.
use Rattle.std.specs.Prelude.{ℕ, ◌^◌, ◌==◌, if◌then◌else◌, List, length, Option, Some, None, ℤ, pos, neg_ℤ, ◌-ℤ◌, unsigned_abs}
use Rattle.std.specs.Int.{w64, to_be_bytes, from_be_bytes}

-- how far the number is above the least of 64 bits
abbrev pub rank : ℤ → ℕ
rank z = unsigned_abs (z -ℤ neg_ℤ (pos (2 ^ 63)))

-- that, the highest byte first
abbrev pub key : ℤ → List ℕ
key z = to_be_bytes w64 (rank z)

-- the number of that key
abbrev pub value_of_key : List ℕ → Option ℤ
value_of_key bs = if length bs == 8 then Some (pos (from_be_bytes w64 bs) -ℤ pos (2 ^ 63)) else None
