-- Texts of digits, as `parse` reads them.
use Rattle.std.proofs.Common.{[], ◌∷◌, ◌+◌, ◌||◌, ◌⊎◌, inl, inr, get_or, decimal, ◌≡◌, ℕ, ◌^◌, ◌<◌, ◌≤◌, not, List, Result, Ok, Err, true, refl, arith, rules, length, ap, sym, ◌==◌}
use Rattle.std.specs.Result.{OkIff, result_ok}
use Rattle.std.specs.List.{list_all}
use Rattle.std.specs.Char.{is_ascii_digit}
use Rattle.std.specs.Str.Parse.{ParsesUnsigned, IsNumeral, digits_value}
use Rattle.std.proofs.lemmas.Bool.{and_parts, and_from, or_cases, or_left, or_right, both_ways, not_from_true, not_from_false, eqb-true, eq-eqb, ne_eqb, cases_lt}
use Rattle.std.proofs.lemmas.Fmt.{decimal_is_IsNumeral, decimal_digit, decimal-digits_value, first_decimal}
use Rattle.std.proofs.lemmas.Bool.Decides.{nat_tests}
use Rattle.std.proofs.lemmas.Str.Parse.{IsDigitsTest, IsNumeralModel, numerals_by_value, parse_digits}
use Rattle.cedar_ip.specs.Texts.{is_numeral, is_plain, starts_with_zero}
use Rattle.cedar_ip.specs.Bounds.{below_256}

-- a text of digits
abbrev pub AreDigits : List ℕ → Type 0
AreDigits text = list_all is_ascii_digit text ≡ true

pub digits_test : IsDigitsTest AreDigits
digits_test = search rules

pub digits_model : IsNumeralModel AreDigits (digits_value 10)
digits_model = numerals_by_value AreDigits digits_test

-- the test of a numeral is that it is one
pub numeral_parts : (text : List ℕ) → is_numeral text ≡ true → (0 < length text) × AreDigits text
numeral_parts text h =
    let (some, digits) = and_parts (not (length text == 0)) (list_all is_ascii_digit text) h in
    (grind (arith, nat_tests), digits)

pub numeral_is : (text : List ℕ) → is_numeral text ≡ true → IsNumeral 10 text
numeral_is text h = let (some, digits) = numeral_parts text h in (some, digits_model.to text digits)

pub numeral_from : (text : List ℕ) → IsNumeral 10 text → is_numeral text ≡ true
numeral_from text (some, digits) =
    let not_empty : not (length text == 0) ≡ true = grind (arith, nat_tests) in
    and_from (not (length text == 0)) (list_all is_ascii_digit text) not_empty (digits_model.from text digits)

-- what `parse` makes of a numeral
pub parsed : {E : Type 0} (text : List ℕ) (r : Result ℕ E) → ParsesUnsigned 8 10 text r → is_numeral text ≡ true →
    result_ok r ≡ below_256 (digits_value 10 text)
parsed text r h numeral =
    let (some, digits) = numeral_parts text numeral in
    by text r (parse_digits digits_model 8 text r h digits) some
  where
    by : {E : Type 0} (text : List ℕ) (r : Result ℕ E) →
        OkIff r ((0 < length text) × (digits_value 10 text < 2 ^ 8)) (digits_value 10 text) → 0 < length text →
        result_ok r ≡ below_256 (digits_value 10 text)
    by text (Ok n) ((longer, fits), is) some = grind (arith, nat_tests)
    by text (Err e) other some = let large = λ (small : digits_value 10 text < 2 ^ 8). other (some, small) in grind (arith, nat_tests)

-- a number without needless zeros is written as it is printed
zero_alone : (text : List ℕ) → ((length text == 1) || not (starts_with_zero text)) ≡ true → get_or text 0 0 ≡ 48 → length text ≡ 1
zero_alone [] h e = cc
zero_alone (c ∷ cs) h e = by (or_cases (length (c ∷ cs) == 1) (not (c == 48)) h)
  where
    by : ((length (c ∷ cs) == 1) ≡ true) ⊎ (not (c == 48) ≡ true) → length (c ∷ cs) ≡ 1
    by (inl one) = eqb-true (length (c ∷ cs)) 1 one
    by (inr other) = absurd (both_ways (not (c == 48)) (not_from_true (c == 48) (eq-eqb c 48 e)) other)

pub plain_is : (text : List ℕ) → is_plain text ≡ true → digits_value 10 text < 2 ^ 64 → text ≡ decimal (digits_value 10 text)
plain_is text plain small =
    let (numeral, zero) = and_parts (is_numeral text) ((length text == 1) || not (starts_with_zero text)) plain in
    let (some, digits) = numeral_parts text numeral in
    sym (decimal-digits_value digits_model text digits some (zero_alone text zero) small)

no_zero_first : (text : List ℕ) → 48 < get_or text 0 0 → not (starts_with_zero text) ≡ true
no_zero_first [] h = refl
no_zero_first (c ∷ cs) h = not_from_false (c == 48) (ne_eqb c 48 (λ e. let x : c ≡ 48 = e in omega arith))

pub plain_from : (n : ℕ) → n < 2 ^ 64 → is_plain (decimal n) ≡ true
plain_from n small =
    and_from (is_numeral (decimal n)) ((length (decimal n) == 1) || not (starts_with_zero (decimal n)))
    (numeral_from (decimal n) (decimal_is_IsNumeral n small).0) (by (cases_lt 0 n))
  where
    by : (0 < n) ⊎ (n ≤ 0) → ((length (decimal n) == 1) || not (starts_with_zero (decimal n))) ≡ true
    by (inl some) = or_right (length (decimal n) == 1) (not (starts_with_zero (decimal n))) (no_zero_first (decimal n) (first_decimal n some small))
    by (inr none) =
        let digit : decimal n ≡ (48 + n) ∷ [] = decimal_digit n (omega arith) in
        or_left (length (decimal n) == 1) (not (starts_with_zero (decimal n))) (ap (λ t. length t == 1) digit)
