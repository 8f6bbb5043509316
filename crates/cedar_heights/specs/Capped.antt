-- Numbers as a `usize` has them.
use Rattle.std.specs.Prelude.{ℕ, ◌^◌, ◌-◌, min}

-- the number, or the greatest that there is, where it is greater
abbrev pub capped : ℕ → ℕ
capped n = min n (2 ^ 64 - 1)
