-- Sizes as the code holds them, in 64 bits without a sign.
use Rattle.std.specs.Prelude.{ℕ, ◌^◌, cond, nat_lt, Option, Some, None, option_and_then}

-- the size, if 64 bits hold it
abbrev pub below_64_bits : ℕ → Option ℕ
below_64_bits n = cond (nat_lt n (2 ^ 64)) (Some n) None

abbrev pub within_64_bits : Option ℕ → Option ℕ
within_64_bits size = option_and_then below_64_bits size
