-- Texts that write longs.
use Rattle.std.proofs.Common.{◌≡◌, ℤ, pos, negsuc, Bool, true, false, cond, ◌&&◌, [], ◌∷◌, length, Option, Some, None, MatchOption, refl, sym, ap, ◌∙◌, FitsSigned, w64, codes, leb-true, lt-ltb, ltb-true, nat_lt, arith, ok_or, Ok}
use Rattle.std.proofs.lemmas.Bool.{and_from, and_parts}
use Rattle.std.proofs.lemmas.Slice.Eq.{bytes_eq-Decides}
use Rattle.std.specs.List.{list_all}
use Rattle.std.specs.Option.{option_and_then}
use Rattle.std.specs.Str.Parse.{AllDigits, IsNumeral, without_leading_sign, signed_digits_value, ParsesSigned}
use Rattle.std.specs.Char.{digit_value}
use Rattle.cedar_model.specs.Terms.{Text}
use Rattle.cedar_model.specs.Outcomes.{is_long}
use Rattle.cedar_model.specs.lemmas.Longs.{fits_long}
use Rattle.std.specs.Fmt.{signed_decimal}
use Rattle.std.proofs.lemmas.Fmt.{parse-signed_decimal, decimal_digit}
use Rattle.cedar_policy_json_reader.specs.Numbers.{is_digit, are_digits, is_long_text, is_signed_zero, signed_long_of_text, long_of_text}

long_fits : (n : ℤ) → is_long n ≡ true → FitsSigned w64 n
unfolding is_long
long_fits (pos n) h = record { sfits = omega (arith, leb-true n 9223372036854775807 h) }
long_fits (negsuc n) h = record { sfits = omega (arith, leb-true n 9223372036854775807 h) }

digits_all : (cs : Text) → AllDigits 10 cs → list_all is_digit cs ≡ true
digits_all [] h = refl
digits_all (c ∷ cs) h = and_from (is_digit c) (list_all is_digit cs) (lt-ltb (digit_value c) 10 h.0) (digits_all cs h.1)

all_digits : (cs : Text) → list_all is_digit cs ≡ true → AllDigits 10 cs
all_digits [] h = tt
all_digits (c ∷ cs) h =
    let e = and_parts (is_digit c) (list_all is_digit cs) h in
    (ltb-true (digit_value c) 10 e.0, all_digits cs e.1)

long_written : (t : Text) → IsNumeral 10 (without_leading_sign t) × FitsSigned w64 (signed_digits_value 10 t) → is_long_text t ≡ true
long_written t h =
    and_from (are_digits (without_leading_sign t)) (is_long (signed_digits_value 10 t))
    (and_from (nat_lt 0 (length (without_leading_sign t))) (list_all is_digit (without_leading_sign t)) (lt-ltb 0 (length (without_leading_sign t)) h.0.0) (digits_all (without_leading_sign t) h.0.1))
    (fits_long (signed_digits_value 10 t) h.1)

writes_long : (t : Text) → is_long_text t ≡ true → IsNumeral 10 (without_leading_sign t) × FitsSigned w64 (signed_digits_value 10 t)
writes_long t h =
    let e = and_parts (are_digits (without_leading_sign t)) (is_long (signed_digits_value 10 t)) h in
    let d = and_parts (nat_lt 0 (length (without_leading_sign t))) (list_all is_digit (without_leading_sign t)) e.0 in
    ((ltb-true 0 (length (without_leading_sign t)) d.0, all_digits (without_leading_sign t) d.1), long_fits (signed_digits_value 10 t) e.1)

none_written : (t : Text) (b : Bool) → is_long_text t ≡ b → (IsNumeral 10 (without_leading_sign t) × FitsSigned w64 (signed_digits_value 10 t) → ⊥) → None ≡ cond b (Some (signed_digits_value 10 t)) None
none_written t true e f = absurd (f (writes_long t e))
none_written t false e f = refl

read_text : (t : Text) (r : Option ℤ) → ParsesSigned w64 10 t (ok_or r t) → r ≡ signed_long_of_text t
read_text t None h = none_written t (is_long_text t) refl h
read_text t (Some n) h =
    ap Some h.1 ∙ ap (λ b. cond b (Some (signed_digits_value 10 t)) None) (sym (long_written t h.0))

-- what a text is read as is the long that it writes
pub long_parsed : (o : Option Text) (r : Option ℤ) → MatchOption o (r ≡ None) (λ t. ParsesSigned w64 10 t (ok_or r t)) → r ≡ option_and_then signed_long_of_text o
long_parsed None r h = h
long_parsed (Some t) r h = read_text t r h
