-- Numbers as the code holds them, in 8 bits.
use Rattle.std.specs.Prelude.{ℕ, ◌^◌, cond, nat_lt, Option, Some, None}

abbrev pub below_256 : ℕ → Option ℕ
below_256 n = cond (nat_lt n (2 ^ 8)) (Some n) None
