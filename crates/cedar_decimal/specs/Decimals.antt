-- The decimal that a text writes, as a number of ten-thousandths: 45 is `-`, and 46 is `.`.
use Rattle.std.specs.Prelude.{ℕ, ◌+◌, ◌-◌, ◌*◌, ◌^◌, ℤ, pos, neg_ℤ, Bool, ◌&&◌, not, cond, ◌==◌, nat_lt, nat_le, List, [], ◌∷◌, length, Option, Some, None}
use Rattle.std.specs.List.{list_all, before_first, after_first}
use Rattle.std.specs.Char.{is_ascii_digit}
use Rattle.std.specs.Str.Parse.{digits_value}

-- one digit or more, and nothing else
abbrev pub is_numeral : List ℕ → Bool
is_numeral text = not (length text == 0) && list_all is_ascii_digit text

-- how many ten-thousandths the digits before a dot and the digits behind it write
abbrev pub ten_thousandths : List ℕ → List ℕ → ℕ
ten_thousandths whole fraction = digits_value 10 whole * 10 ^ 4 + digits_value 10 fraction * 10 ^ (4 - length fraction)

-- the same, where before the dot there is one digit or more, and behind it one to four
abbrev pub value_of_parts : List ℕ → List ℕ → Option ℕ
value_of_parts whole fraction =
    cond (is_numeral whole && (is_numeral fraction && nat_le (length fraction) 4))
    (Some (ten_thousandths whole fraction)) None

-- the size that a text without a sign writes, by what stands before its first dot and behind it
abbrev pub unsigned_of : List ℕ → Option ℕ
unsigned_of text = value_of_parts (before_first (λ c. c == 46) text) (after_first (λ c. c == 46) text)

-- the number below zero of this size, if it fits 64 bits
abbrev pub negative : Option ℕ → Option ℤ
negative None = None
negative (Some size) = cond (nat_le size (2 ^ 63)) (Some (neg_ℤ (pos size))) None

-- the number of this size that is not below zero, if it fits 64 bits
abbrev pub positive : Option ℕ → Option ℤ
positive None = None
positive (Some size) = cond (nat_lt size (2 ^ 63)) (Some (pos size)) None

-- the decimal that the text writes, if it writes one
abbrev pub decimal_of : List ℕ → Option ℤ
decimal_of [] = None
decimal_of (c ∷ cs) = cond (c == 45) (negative (unsigned_of cs)) (positive (unsigned_of (c ∷ cs)))
