-- Texts of digits, as `parse` reads them.
use Rattle.std.proofs.Common.{◌≡◌, ℕ, ◌^◌, ◌<◌, ◌≤◌, not, List, Result, Ok, Err, true, arith, rules, length, ◌==◌}
use Rattle.std.specs.Result.{OkIff, result_ok}
use Rattle.std.specs.List.{list_all}
use Rattle.std.specs.Char.{is_ascii_digit}
use Rattle.std.specs.Str.Parse.{ParsesUnsigned, IsNumeral, digits_value}
use Rattle.std.proofs.lemmas.Bool.{and_parts, and_from}
use Rattle.std.proofs.lemmas.Bool.Decides.{nat_tests}
use Rattle.std.proofs.lemmas.Str.Parse.{IsDigitsTest, IsNumeralModel, numerals_by_value, parse_digits, digits_value_short}
use Rattle.cedar_decimal.specs.Decimals.{is_numeral}
use Rattle.cedar_decimal.specs.Bounds.{below_64_bits}

-- a text of digits
abbrev pub AreDigits : List ℕ → Type 0
AreDigits text = list_all is_ascii_digit text ≡ true

pub digits_test : IsDigitsTest AreDigits
digits_test = search rules

pub digits_model : IsNumeralModel AreDigits (digits_value 10)
digits_model = numerals_by_value AreDigits digits_test

-- the test of a numeral is that it is one
pub numeral_parts : (text : List ℕ) → is_numeral text ≡ true → (0 < length text) × AreDigits text
numeral_parts text h =
    let (some, digits) = and_parts (not (length text == 0)) (list_all is_ascii_digit text) h in
    (grind (arith, nat_tests), digits)

pub numeral_is : (text : List ℕ) → is_numeral text ≡ true → IsNumeral 10 text
numeral_is text h = let (some, digits) = numeral_parts text h in (some, digits_model.to text digits)

pub numeral_from : (text : List ℕ) → IsNumeral 10 text → is_numeral text ≡ true
numeral_from text (some, digits) =
    let not_empty : not (length text == 0) ≡ true = grind (arith, nat_tests) in
    and_from (not (length text == 0)) (list_all is_ascii_digit text) not_empty (digits_model.from text digits)

-- what `parse` makes of a numeral
pub parsed : {E : Type 0} (text : List ℕ) (r : Result ℕ E) → ParsesUnsigned 64 10 text r → is_numeral text ≡ true →
    result_ok r ≡ below_64_bits (digits_value 10 text)
parsed text r h numeral =
    let (some, digits) = numeral_parts text numeral in
    by text r (parse_digits digits_model 64 text r h digits) some
  where
    by : {E : Type 0} (text : List ℕ) (r : Result ℕ E) →
        OkIff r ((0 < length text) × (digits_value 10 text < 2 ^ 64)) (digits_value 10 text) → 0 < length text →
        result_ok r ≡ below_64_bits (digits_value 10 text)
    by text (Ok n) ((longer, fits), is) some = grind (arith, nat_tests)
    by text (Err e) other some = let large = λ (small : digits_value 10 text < 2 ^ 64). other (some, small) in grind (arith, nat_tests)

-- four digits are a small number
pub four_digits : (text : List ℕ) → is_numeral text ≡ true → length text ≤ 4 → digits_value 10 text < 10 ^ 4
four_digits text numeral short = digits_value_short digits_model text 4 (numeral_parts text numeral).1 short
