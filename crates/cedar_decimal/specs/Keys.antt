-- The keys of decimals.
use Rattle.std.specs.Prelude.{ℕ, ◌^◌, ℤ, pos, neg_ℤ, ◌-ℤ◌, unsigned_abs, List, Option, option_map}
use Rattle.std.specs.Int.{w64, to_be_bytes}
use Rattle.cedar_decimal.specs.Decimals.{decimal_of}

-- how many ten-thousandths above the least decimal this one is
abbrev pub rank_of : ℤ → ℕ
rank_of n = unsigned_abs (n -ℤ neg_ℤ (pos (2 ^ 63)))

-- that in eight bytes, the highest first
abbrev pub key_of_decimal : ℤ → List ℕ
key_of_decimal n = to_be_bytes w64 (rank_of n)

-- the key of the decimal that the text writes, if it writes one
abbrev pub key_of : List ℕ → Option (List ℕ)
key_of text = option_map key_of_decimal (decimal_of text)
