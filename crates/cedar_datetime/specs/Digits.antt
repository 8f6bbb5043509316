-- Digits at the places of a text, and the number that digits write.
use Rattle.std.specs.Prelude.{ℕ, ◌+◌, ◌-◌, ◌*◌, List, [], ◌∷◌, slice_index}

-- what the digit at this place is worth
abbrev pub digit_at : ℕ → List ℕ → ℕ
digit_at i bs = slice_index bs i - 48

-- the number that the two digits from this place on write
abbrev pub two_digits : ℕ → List ℕ → ℕ
two_digits i bs = digit_at i bs * 10 + digit_at (i + 1) bs

-- the number that digits write behind those of n
abbrev pub number_behind : ℕ → List ℕ → ℕ
number_behind n [] = n
number_behind n (c ∷ cs) = number_behind (n * 10 + (c - 48)) cs

-- the number that digits write
abbrev pub number : List ℕ → ℕ
number ds = number_behind 0 ds
