-- What `decimal_of` reads is what the grammar says.
use Rattle.std.proofs.Common.{◌≡◌, ◌≢◌, ℕ, ◌+◌, ◌^◌, ◌<◌, ◌≤◌, ℤ, pos, neg_ℤ, FitsSigned, ◌⊎◌, Bool, true, false, ◌&&◌, not, cond, nat_le, nat_lt, List, [], ◌∷◌, ◌++◌, Option, Some, None, refl, arith, length, take, drop, ap, sym, ◌∙◌, ◌==◌, codes, append_assoc, inl, inr}
use Rattle.std.specs.List.{before_first, after_first, position_or_len}
use Rattle.std.specs.Int.{w64}
use Rattle.std.specs.Str.Parse.{IsNumeral, AllDigits}
use Rattle.std.proofs.lemmas.Bool.{and_parts, and_from, eqb-true, lt-ltb, le-leb, ltb-true, leb-true, cases_lt}
use Rattle.std.proofs.lemmas.Bool.Decides.{nat_tests, eqb_tells}
use Rattle.std.proofs.lemmas.Int.{ints}
use Rattle.std.proofs.lemmas.Str.Parse.{digit_from_value}
use Rattle.std.proofs.lemmas.List.Sums.{split_at_first, passes_at_first}
use Rattle.std.proofs.Math.Seq.{take-append_seam, drop-append-add}
use Rattle.cedar_decimal.specs.Decimals.{decimal_of, negative, positive, unsigned_of, value_of_parts, ten_thousandths, is_numeral}
use Rattle.cedar_decimal.specs.Grammar.{IsUnsigned, IsDecimal}
use Rattle.cedar_decimal.proofs.Digits.{numeral_is, numeral_from}
use Rattle.cedar_decimal.proofs.Parts.{is_dot, no_dot_from_end}
use Rattle.cedar_decimal.proofs.Signs.{behind_minus, without_minus}

-- the first dot stands behind the digits
dot_place : (whole fraction : List ℕ) → AllDigits 10 whole → position_or_len is_dot (whole ++ 46 ∷ fraction) ≡ length whole
dot_place [] fraction digits = refl
dot_place (c ∷ cs) fraction (digit, digits) =
    let range = digit_from_value c digit in
    let other : (c == 46) ≡ false = grind (arith, nat_tests) in
    ap (λ b. cond (not b) (1 + position_or_len is_dot (cs ++ 46 ∷ fraction)) 0) other ∙ omega (arith, dot_place cs fraction digits)

parts_value : (whole fraction : List ℕ) → IsNumeral 10 whole → IsNumeral 10 fraction → length fraction ≤ 4 →
    value_of_parts whole fraction ≡ Some (ten_thousandths whole fraction)
parts_value whole fraction w f short =
    let fits : nat_le (length fraction) 4 ≡ true = grind (arith, nat_tests) in
    ap (λ b. cond b (Some (ten_thousandths whole fraction)) None)
    (and_from (is_numeral whole) (is_numeral fraction && nat_le (length fraction) 4) (numeral_from whole w)
    (and_from (is_numeral fraction) (nat_le (length fraction) 4) (numeral_from fraction f) fits))

around_dot : (whole fraction : List ℕ) → IsNumeral 10 whole →
    unsigned_of (whole ++ 46 ∷ fraction) ≡ value_of_parts whole fraction
around_dot whole fraction w =
    let place = dot_place whole fraction w.1 in
    let before : before_first is_dot (whole ++ 46 ∷ fraction) ≡ whole =
    ap (λ i. take i (whole ++ 46 ∷ fraction)) place ∙ take-append_seam whole (46 ∷ fraction) in
    let behind : after_first is_dot (whole ++ 46 ∷ fraction) ≡ fraction =
    ap (λ i. drop (i + 1) (whole ++ 46 ∷ fraction)) place ∙ drop-append-add whole (46 ∷ fraction) 1 in
    λ i. value_of_parts (before i) (behind i)

-- what the grammar writes is read
pub unsigned_read : (text : List ℕ) (size : ℕ) → IsUnsigned text size → unsigned_of text ≡ Some size
unsigned_read text size is =
    ap unsigned_of (is.spelled ∙ append_assoc is.whole (46 ∷ []) is.fraction)
    ∙ around_dot is.whole is.fraction is.whole_digits
    ∙ parts_value is.whole is.fraction is.whole_digits is.fraction_digits is.at_most_four
    ∙ ap Some (sym is.value)

-- which test gives a value
picked : {A : Type 0} (b : Bool) (x y : A) → cond b (Some x) None ≡ Some y → (b ≡ true) × (x ≡ y)
picked true x y h = (refl, cc)
picked false x y h = (cc, cc)

parts_written : (text whole fraction : List ℕ) (size : ℕ) → text ≡ whole ++ 46 ∷ fraction →
    value_of_parts whole fraction ≡ Some size → IsUnsigned text size
parts_written text whole fraction size spelled h =
    let (tests, value) = picked _ (ten_thousandths whole fraction) size h in
    let (w, rest) = and_parts (is_numeral whole) (is_numeral fraction && nat_le (length fraction) 4) tests in
    let (f, short) = and_parts (is_numeral fraction) (nat_le (length fraction) 4) rest in
    record {
      whole = whole;
      fraction = fraction;
      spelled = spelled ∙ sym (append_assoc whole (46 ∷ []) fraction);
      whole_digits = numeral_is whole w;
      fraction_digits = numeral_is fraction f;
      at_most_four = grind (arith, nat_tests);
      value = sym value;
    }

-- and what is read is written so
pub unsigned_written : (text : List ℕ) (size : ℕ) → unsigned_of text ≡ Some size → IsUnsigned text size
unsigned_written text size h = by (cases_lt (position_or_len is_dot text) (length text))
  where
    by : (position_or_len is_dot text < length text) ⊎ (length text ≤ position_or_len is_dot text) → IsUnsigned text size
    by (inl within) =
        let dot = eqb-true _ 46 (passes_at_first is_dot text 0 within) in
        parts_written text (before_first is_dot text) (after_first is_dot text) size
        (split_at_first is_dot text 0 within ∙ ap (λ c. before_first is_dot text ++ c ∷ after_first is_dot text) dot) h
    by (inr past) = let none = no_dot_from_end text past in absurd (let e : ⊥ = cc in e)

-- a text without a sign has no minus first
digits_first : (whole fraction rest : List ℕ) → IsNumeral 10 whole → whole ++ codes "." ++ fraction ≢ 45 ∷ rest
digits_first [] fraction rest (some, digits) e = omega arith
digits_first (c ∷ cs) fraction rest (some, (digit, digits)) e =
    let is : c ≡ 45 = cc in
    let range = digit_from_value c digit in omega arith

no_minus : (text : List ℕ) (size : ℕ) → IsUnsigned text size → (rest : List ℕ) → text ≢ 45 ∷ rest
no_minus text size is rest e = digits_first is.whole is.fraction rest is.whole_digits (sym is.spelled ∙ e)

-- the sign, and whether the number fits
positive_fits : (size : ℕ) (n : ℤ) → FitsSigned w64 n → n ≡ pos size → positive (Some size) ≡ Some n
positive_fits size n fits is =
    let small : size < 2 ^ 63 = omega (arith, ints) in
    ap (λ b. cond b (Some (pos size)) None) (lt-ltb size (2 ^ 63) small) ∙ ap Some (sym is)

negative_fits : (size : ℕ) (n : ℤ) → FitsSigned w64 n → n ≡ neg_ℤ (pos size) → negative (Some size) ≡ Some n
negative_fits size n fits is =
    let small : size ≤ 2 ^ 63 = omega (arith, ints) in
    ap (λ b. cond b (Some (neg_ℤ (pos size))) None) (le-leb size (2 ^ 63) small) ∙ ap Some (sym is)

positive_parts : (size : Option ℕ) (n : ℤ) → positive size ≡ Some n →
    (m : ℕ) × (size ≡ Some m) × (n ≡ pos m) × FitsSigned w64 n
positive_parts None n h = absurd (let e : ⊥ = cc in e)
positive_parts (Some m) n h =
    let (small, value) = picked (nat_lt m (2 ^ 63)) (pos m) n h in
    let below : m < 2 ^ 63 = ltb-true m (2 ^ 63) small in
    let is : n ≡ pos m = sym value in
    (m, refl, is, omega (arith, ints))

negative_parts : (size : Option ℕ) (n : ℤ) → negative size ≡ Some n →
    (m : ℕ) × (size ≡ Some m) × (n ≡ neg_ℤ (pos m)) × FitsSigned w64 n
negative_parts None n h = absurd (let e : ⊥ = cc in e)
negative_parts (Some m) n h =
    let (small, value) = picked (nat_le m (2 ^ 63)) (neg_ℤ (pos m)) n h in
    let at_most : m ≤ 2 ^ 63 = leb-true m (2 ^ 63) small in
    let is : n ≡ neg_ℤ (pos m) = sym value in
    (m, refl, is, omega (arith, ints))

pub decimal_read : (text : List ℕ) (n : ℤ) → IsDecimal text n → decimal_of text ≡ Some n
decimal_read text n (fits, inl (size, is, value)) =
    without_minus text (no_minus text size is) ∙ ap positive (unsigned_read text size is) ∙ positive_fits size n fits value
decimal_read text n (fits, inr (size, rest, spelled, is, value)) =
    behind_minus text rest spelled ∙ ap negative (unsigned_read rest size is) ∙ negative_fits size n fits value

pub decimal_written : (text : List ℕ) (n : ℤ) → decimal_of text ≡ Some n → IsDecimal text n
decimal_written [] n h = absurd (let e : ⊥ = cc in e)
decimal_written (c ∷ cs) n h = by (eqb_tells c 45)
  where
    by : ((c == 45) ≡ true) × (c ≡ 45) ⊎ ((c == 45) ≡ false) × (c ≢ 45) → IsDecimal (c ∷ cs) n
    by (inl (test, is)) =
        let read : negative (unsigned_of cs) ≡ Some n =
        sym (ap (λ b. cond b (negative (unsigned_of cs)) (positive (unsigned_of (c ∷ cs)))) test) ∙ h in
        let (size, reads, value, fits) = negative_parts (unsigned_of cs) n read in
        (fits, inr (size, cs, ap (λ x. x ∷ cs) is, unsigned_written cs size reads, value))
    by (inr (test, other)) =
        let read : positive (unsigned_of (c ∷ cs)) ≡ Some n =
        sym (ap (λ b. cond b (negative (unsigned_of cs)) (positive (unsigned_of (c ∷ cs)))) test) ∙ h in
        let (size, reads, value, fits) = positive_parts (unsigned_of (c ∷ cs)) n read in
        (fits, inl (size, unsigned_written (c ∷ cs) size reads, value))
