-- Texts that are written are read.
use Rattle.std.proofs.Common.{◌≡◌, ℕ, suc, ◌+◌, ◌*◌, ◌^◌, ◌<◌, ◌≤◌, true, false, cond, List, [], ◌∷◌, ◌++◌, length, take, drop, codes, refl, ap, ◌∙◌, arith, rules, Some, None, ℤ, pos, negsuc, FitsSigned, w64, nat_le, not, ◌&&◌, ◌==◌, ◌+ℤ◌, ◌*ℤ◌}
use Rattle.std.specs.Fmt.{decimal}
use Rattle.std.specs.Str.{all_ascii_digits}
use Rattle.std.specs.Char.{is_ascii_digit}
use Rattle.std.specs.List.{prefix_len}
use Rattle.std.proofs.lemmas.Str.Parse.{IsNumeralModel, numerals_by_fold}
use Rattle.std.proofs.lemmas.Fmt.{digits_decimal, digits_value-decimal, decimal_nonempty}
use Rattle.std.proofs.lemmas.Bool.{and_parts, le-leb, lt-ltb, leb-true, ne_eqb}
use Rattle.std.proofs.Math.Seq.{take-append_seam, drop-append_seam}
use Rattle.std.proofs.lemmas.List.{length-append}
use Rattle.jiff_core.proofs.StandardFacts.{known_days}
use Rattle.std.specs.Str.{bytes_eq}
use Rattle.cedar_datetime.specs.Datetime.{begins_as, day_at, time_of, moment, datetime_of}
use Rattle.cedar_datetime.specs.declared.duration.Unit.{Unit}
use Rattle.cedar_datetime.specs.declared.duration.Unit.TheVariants.{Days, Hours, Minutes, Seconds, Milliseconds}
use Rattle.cedar_datetime.specs.Digits.{number, number_behind}
use Rattle.cedar_datetime.specs.Duration.{units, letters_of, milliseconds_of, digits, behind_digits, letters, behind_letters, begins_with, in_units, more_of, within, magnitude_of, positive, negative, duration_of, written}

own : IsNumeralModel (λ ds. all_ascii_digits ds ≡ true) number
own = numerals_by_fold _ (search rules) number_behind (search rules)

-- `ms` behind digits
abbrev ms : List ℕ → List ℕ
ms ds = ds ++ (109 ∷ 115 ∷ [])

all_of : (ds : List ℕ) → all_ascii_digits ds ≡ true → prefix_len is_ascii_digit (ms ds) ≡ length ds
all_of [] h = refl
all_of (d ∷ ds) h =
    let e = and_parts (is_ascii_digit d) (all_ascii_digits ds) h in
    ap (λ b. cond b (1 + prefix_len is_ascii_digit (ms ds)) 0) e.0 ∙ omega (arith, all_of ds e.1)

digits_front : (ds : List ℕ) → all_ascii_digits ds ≡ true → digits (ms ds) ≡ ds
digits_front ds h = ap (λ n. take n (ms ds)) (all_of ds h) ∙ take-append_seam ds (109 ∷ 115 ∷ [])

digits_left : (ds : List ℕ) → all_ascii_digits ds ≡ true → behind_digits (ms ds) ≡ 109 ∷ 115 ∷ []
digits_left ds h = ap (λ n. drop n (ms ds)) (all_of ds h) ∙ drop-append_seam ds (109 ∷ 115 ∷ [])

-- the unit behind the digits is `ms`
stands : (unit : Unit) (ds : List ℕ) → all_ascii_digits ds ≡ true → 0 < length ds → begins_with unit (ms ds) ≡ bytes_eq (109 ∷ 115 ∷ []) (letters_of unit)
unfolding begins_with
stands unit ds h some =
    ap (λ x. not (length x == 0) && bytes_eq (letters (behind_digits (ms ds))) (letters_of unit)) (digits_front ds h)
    ∙ ap (λ x. not (length ds == 0) && bytes_eq (letters x) (letters_of unit)) (digits_left ds h)
    ∙ ap (λ b. not b && bytes_eq (109 ∷ 115 ∷ []) (letters_of unit)) (ne_eqb (length ds) 0 (λ e. omega (arith, some, e)))

skipped : (unit : Unit) (us : List Unit) (bs : List ℕ) → begins_with unit bs ≡ false → in_units (unit ∷ us) bs ≡ in_units us bs
unfolding in_units
skipped unit us bs h = ap (λ b. cond b (more_of (number (digits bs) * milliseconds_of unit) (in_units us (behind_letters (behind_digits bs)))) (in_units us bs)) h

taken : (unit : Unit) (us : List Unit) (bs : List ℕ) → begins_with unit bs ≡ true → in_units (unit ∷ us) bs ≡ more_of (number (digits bs) * milliseconds_of unit) (in_units us (behind_letters (behind_digits bs)))
unfolding in_units
taken unit us bs h = ap (λ b. cond b (more_of (number (digits bs) * milliseconds_of unit) (in_units us (behind_letters (behind_digits bs)))) (in_units us bs)) h

nothing : in_units [] [] ≡ Some 0
unfolding in_units
nothing = refl

-- a text of digits and `ms` has these milliseconds and no other unit
in_milliseconds : (ds : List ℕ) → all_ascii_digits ds ≡ true → 0 < length ds → in_units units (ms ds) ≡ Some (number ds)
in_milliseconds ds h some =
    skipped Days _ (ms ds) (stands Days ds h some) ∙ skipped Hours _ (ms ds) (stands Hours ds h some)
    ∙ skipped Minutes _ (ms ds) (stands Minutes ds h some) ∙ skipped Seconds _ (ms ds) (stands Seconds ds h some)
    ∙ taken Milliseconds [] (ms ds) (stands Milliseconds ds h some)
    ∙ ap (λ x. more_of (number x * 1) (in_units [] (behind_letters (behind_digits (ms ds))))) (digits_front ds h)
    ∙ ap (λ x. more_of (number ds * 1) (in_units [] (behind_letters x))) (digits_left ds h)
    ∙ ap (more_of (number ds * 1)) nothing
    ∙ ap Some (omega arith)

measured : (ds : List ℕ) → all_ascii_digits ds ≡ true → 0 < length ds → number ds ≤ 2 ^ 63 → magnitude_of (ms ds) ≡ Some (number ds)
unfolding magnitude_of
measured ds h some small =
    ap (λ b. cond b None (within (in_units units (ms ds)))) (ne_eqb (length (ms ds)) 0 (λ e. omega (arith, some, e, length-append ds (109 ∷ 115 ∷ []))))
    ∙ ap within (in_milliseconds ds h some)
    ∙ ap (λ b. cond b (Some (number ds)) None) (le-leb (number ds) (2 ^ 63) small)

plain : (ds : List ℕ) → all_ascii_digits ds ≡ true → 0 < length ds → duration_of (ms ds) ≡ positive (magnitude_of (ms ds))
plain [] h some = absurd (omega (arith, some))
plain (d ∷ ds) h some =
    let e = and_parts (is_ascii_digit d) (all_ascii_digits ds) h in
    let f = and_parts (nat_le 48 d) (nat_le d 57) e.0 in
    ap (λ b. cond b (negative (magnitude_of (ms ds))) (positive (magnitude_of (ms (d ∷ ds))))) (ne_eqb d 45 (λ e. omega (arith, e, leb-true 48 d f.0)))

pub read : (z : ℤ) → FitsSigned w64 z → duration_of (written z) ≡ Some z
read (pos n) fits =
    let small : n < 2 ^ 63 = omega (arith, fits.sfits) in
    let ds = decimal n in
    let h = digits_decimal own n (omega (arith, small)) in
    let e = digits_value-decimal own n (omega (arith, small)) in
    let some = decimal_nonempty n (omega (arith, small)) in
    plain (decimal n) h some
    ∙ ap positive (measured (decimal n) h some (omega (arith, e, small)) ∙ ap Some e)
    ∙ ap (λ b. cond b (Some (pos n)) None) (lt-ltb n (2 ^ 63) small)
read (negsuc n) fits =
    let small : n < 2 ^ 63 = omega (arith, fits.sfits) in
    let h = digits_decimal own (suc n) (omega (arith, small)) in
    let e = digits_value-decimal own (suc n) (omega (arith, small)) in
    let some = decimal_nonempty (suc n) (omega (arith, small)) in
    ap negative (measured (decimal (suc n)) h some (omega (arith, e, small)) ∙ ap Some e)

-- 1970-01-01 is 0
pub epoch : datetime_of (codes "1970-01-01") ≡ Some (pos 0)
unfolding begins_as day_at time_of moment
epoch = ap (λ z. Some (z *ℤ pos 86_400_000 +ℤ pos 0)) known_days.0
