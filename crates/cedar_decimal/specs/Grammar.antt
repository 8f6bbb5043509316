-- How a text writes a decimal.
use Rattle.std.specs.Prelude.{◌≡◌, ◌⊎◌, ℕ, ◌+◌, ◌-◌, ◌*◌, ◌^◌, ◌≤◌, ℤ, pos, neg_ℤ, FitsSigned, List, ◌++◌, length, codes}
use Rattle.std.specs.Int.{w64}
use Rattle.std.specs.Str.Parse.{IsNumeral, digits_value}

-- without a sign: one digit or more, a dot, and one to four digits; the size is in ten-thousandths
pub record IsUnsigned (text : List ℕ) (size : ℕ) : Type 0 where
  pub whole : List ℕ
  pub fraction : List ℕ
  pub spelled : text ≡ whole ++ codes "." ++ fraction
  pub whole_digits : IsNumeral 10 whole
  pub fraction_digits : IsNumeral 10 fraction
  pub at_most_four : length fraction ≤ 4
  pub value : size ≡ digits_value 10 whole * 10 ^ 4 + digits_value 10 fraction * 10 ^ (4 - length fraction)

-- perhaps with a minus before all of it, which negates the whole, and within 64 bits
abbrev pub IsDecimal : List ℕ → ℤ → Type 0
IsDecimal text n = FitsSigned w64 n
    × (((size : ℕ) × IsUnsigned text size × (n ≡ pos size))
    ⊎ ((size : ℕ) × (rest : List ℕ) × (text ≡ codes "-" ++ rest) × IsUnsigned rest size × (n ≡ neg_ℤ (pos size))))
