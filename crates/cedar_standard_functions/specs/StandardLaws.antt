-- What the standard functions answer is lawful; they are found by their names.
use Rattle.std.specs.Prelude.{◌≡◌, ◌≤◌, ◌+ℤ◌, ◌-ℤ◌, ℕ, ℤ, Bool, true, false, cond, List, [], ◌∷◌, Option, Some, is_some}
use Rattle.std.proofs.Common.{arith, refl, sym, ap, ◌∙◌, true≢false}
use Rattle.std.proofs.lemmas.Slice.Eq.{bytes_eq-Decides}
use Rattle.std.specs.List.{find}
use Rattle.std.specs.declared.cmp.Ordering.{Ordering}
use Rattle.std.specs.Ordering.{nat_cmp, is_lt, is_le, is_gt, is_ge}
use Rattle.std.specs.Cmp.Lexicographic.{slice_cmp}
use Rattle.cedar_model.specs.Terms.{bool_literal, long_literal}
use Rattle.cedar_model.specs.Values.{AbstractValue, Represented, plain_represented, expression_of}
use Rattle.cedar_model.specs.Agreement.{height}
use Rattle.cedar_model.specs.Failures.{function_has_failed, Answer, answers_bool, answers_value}
use Rattle.cedar_model.specs.Restricted.{IsSound}
use Rattle.cedar_decimal.specs.Keys.{key_of}
use Rattle.cedar_decimal_functions.specs.Decimals.{decimal_name, not_a_decimal}
use Rattle.cedar_decimal_functions.specs.Comparisons.{compared}
use Rattle.cedar_ip.specs.Ranges.{ipv4, ipv6}
use Rattle.cedar_ip.specs.Keys as ips
use Rattle.cedar_ip_functions.specs.Ranges.{ipaddr_name, ip_name, not_a_range}
use Rattle.cedar_ip_functions.specs.Questions.{asked}
use Rattle.cedar_datetime.specs.Keys.{value_of_key}
use Rattle.cedar_datetime.specs.Operations.{in_64_bits, last_midnight, since_midnight}
use Rattle.cedar_datetime.specs.Operations.{in_seconds, in_minutes, in_hours, in_days}
use Rattle.cedar_datetime_functions.specs.Names.{datetime_name, duration_name, not_a_datetime, not_a_duration}
use Rattle.cedar_datetime_functions.specs.Names.{beyond_64_bits, not_eight_bytes}
use Rattle.cedar_datetime_functions.specs.Constructors.{datetime_key, duration_key}
use Rattle.cedar_datetime_functions.specs.Numbers.{of_number, of_numbers, datetime_value, duration_value, if_within}
use Rattle.cedar_datetime_functions.specs.Amounts.{amount}
use Rattle.cedar_standard_functions.specs.AnswerLaws.{value_is_lawful, failed_is_lawful, expecting_is_lawful}
use Rattle.cedar_standard_functions.specs.AnswerLaws.{of_key_is_lawful, of_keys_is_lawful, constructor_is_lawful}
use Rattle.cedar_standard_functions.specs.AnswerLaws.{literal_is_lawful}
use Rattle.cedar_standard_functions.specs.Laws.{IsLawful, AreLawful, AreFound, HaveTheirNames}
use Rattle.cedar_standard_functions.specs.Standard.{name_of, has_name, all_standard}
use Rattle.cedar_standard_functions.specs.declared.function.StandardFunction.TheVariants as functions

-- ---- what they answer

compared_is_lawful : (such : Ordering → Bool) (vs : List AbstractValue) → IsLawful (compared such vs)
compared_is_lawful such =
    of_keys_is_lawful decimal_name decimal_name (λ k l. answers_bool (such (slice_cmp nat_cmp k l)))
    (λ k l. literal_is_lawful (bool_literal (such (slice_cmp nat_cmp k l))))

asked_is_lawful : (such : List ℕ → Bool) (vs : List AbstractValue) → IsLawful (asked such vs)
asked_is_lawful such =
    of_key_is_lawful ipaddr_name (λ k. answers_bool (such k)) (λ k. literal_is_lawful (bool_literal (such k)))

number_is_lawful : (next : ℤ → Answer) → ((z : ℤ) → IsLawful (next z)) → (k : List ℕ) → IsLawful (of_number next k)
number_is_lawful next h k =
    expecting_is_lawful (value_of_key k) (function_has_failed datetime_name not_eight_bytes) next
    (failed_is_lawful datetime_name not_eight_bytes) h

numbers_are_lawful : (next : ℤ → ℤ → Answer) → ((z y : ℤ) → IsLawful (next z y)) → (k l : List ℕ)
    → IsLawful (of_numbers next k l)
numbers_are_lawful next h k l =
    number_is_lawful (λ z. of_number (next z) l) (λ z. number_is_lawful (next z) (h z) l) k

within_is_lawful : (value : ℤ → Represented) → ((z : ℤ) → IsSound (value z))
    → ((z : ℤ) → height (expression_of (value z)) ≤ 3) → (o : Option ℤ) → IsLawful (if_within value o)
within_is_lawful value sound low o =
    expecting_is_lawful o (function_has_failed datetime_name beyond_64_bits) (λ z. answers_value (value z))
    (failed_is_lawful datetime_name beyond_64_bits) (λ z. value_is_lawful (value z) (sound z) (low z))

datetime_is_sound : (z : ℤ) → IsSound (datetime_value z)
datetime_is_sound z = (refl, refl)

datetime_is_low : (z : ℤ) → height (expression_of (datetime_value z)) ≤ 3
datetime_is_low z = omega arith

duration_is_sound : (z : ℤ) → IsSound (duration_value z)
duration_is_sound z = (refl, refl)

duration_is_low : (z : ℤ) → height (expression_of (duration_value z)) ≤ 3
duration_is_low z = omega arith

amount_is_lawful : (units_in : ℤ → ℤ) (vs : List AbstractValue) → IsLawful (amount units_in vs)
amount_is_lawful units_in =
    of_key_is_lawful duration_name
    (of_number (λ z. answers_value (plain_represented (long_literal (units_in z)))))
    (number_is_lawful (λ z. answers_value (plain_represented (long_literal (units_in z))))
    (λ z. literal_is_lawful (long_literal (units_in z))))

pub are_lawful : AreLawful
are_lawful functions.Decimal vs = constructor_is_lawful decimal_name decimal_name decimal_name not_a_decimal key_of vs
are_lawful functions.LessThan vs = compared_is_lawful is_lt vs
are_lawful functions.LessThanOrEqual vs = compared_is_lawful is_le vs
are_lawful functions.GreaterThan vs = compared_is_lawful is_gt vs
are_lawful functions.GreaterThanOrEqual vs = compared_is_lawful is_ge vs
are_lawful functions.Ip vs = constructor_is_lawful ipaddr_name ip_name ipaddr_name not_a_range ips.key_of vs
are_lawful functions.IsIpv4 vs = asked_is_lawful (ips.is_key_of ipv4) vs
are_lawful functions.IsIpv6 vs = asked_is_lawful (ips.is_key_of ipv6) vs
are_lawful functions.IsLoopback vs = asked_is_lawful ips.is_loopback vs
are_lawful functions.IsMulticast vs = asked_is_lawful ips.is_multicast vs
are_lawful functions.IsInRange vs =
    of_keys_is_lawful ipaddr_name ipaddr_name (λ k l. answers_bool (ips.is_in_range k l))
    (λ k l. literal_is_lawful (bool_literal (ips.is_in_range k l))) vs
are_lawful functions.Datetime vs =
    constructor_is_lawful datetime_name datetime_name datetime_name not_a_datetime datetime_key vs
are_lawful functions.Duration vs =
    constructor_is_lawful duration_name duration_name datetime_name not_a_duration duration_key vs
are_lawful functions.Offset vs =
    of_keys_is_lawful datetime_name duration_name
    (of_numbers (λ z d. if_within datetime_value (in_64_bits (z +ℤ d))))
    (numbers_are_lawful (λ z d. if_within datetime_value (in_64_bits (z +ℤ d)))
    (λ z d. within_is_lawful datetime_value datetime_is_sound datetime_is_low (in_64_bits (z +ℤ d)))) vs
are_lawful functions.DurationSince vs =
    of_keys_is_lawful datetime_name datetime_name
    (of_numbers (λ z e. if_within duration_value (in_64_bits (z -ℤ e))))
    (numbers_are_lawful (λ z e. if_within duration_value (in_64_bits (z -ℤ e)))
    (λ z e. within_is_lawful duration_value duration_is_sound duration_is_low (in_64_bits (z -ℤ e)))) vs
are_lawful functions.ToDate vs =
    of_key_is_lawful datetime_name (of_number (λ z. if_within datetime_value (last_midnight z)))
    (number_is_lawful (λ z. if_within datetime_value (last_midnight z))
    (λ z. within_is_lawful datetime_value datetime_is_sound datetime_is_low (last_midnight z))) vs
are_lawful functions.ToTime vs =
    of_key_is_lawful datetime_name (of_number (λ z. answers_value (duration_value (since_midnight z))))
    (number_is_lawful (λ z. answers_value (duration_value (since_midnight z)))
    (λ z. value_is_lawful (duration_value (since_midnight z)) (duration_is_sound (since_midnight z))
    (duration_is_low (since_midnight z)))) vs
are_lawful functions.ToMilliseconds vs = amount_is_lawful (λ z. z) vs
are_lawful functions.ToSeconds vs = amount_is_lawful in_seconds vs
are_lawful functions.ToMinutes vs = amount_is_lawful in_minutes vs
are_lawful functions.ToHours vs = amount_is_lawful in_hours vs
are_lawful functions.ToDays vs = amount_is_lawful in_days vs

-- ---- their names

pub are_found : AreFound
are_found functions.Decimal = refl
are_found functions.LessThan = refl
are_found functions.LessThanOrEqual = refl
are_found functions.GreaterThan = refl
are_found functions.GreaterThanOrEqual = refl
are_found functions.Ip = refl
are_found functions.IsIpv4 = refl
are_found functions.IsIpv6 = refl
are_found functions.IsLoopback = refl
are_found functions.IsMulticast = refl
are_found functions.IsInRange = refl
are_found functions.Datetime = refl
are_found functions.Duration = refl
are_found functions.Offset = refl
are_found functions.DurationSince = refl
are_found functions.ToDate = refl
are_found functions.ToTime = refl
are_found functions.ToMilliseconds = refl
are_found functions.ToSeconds = refl
are_found functions.ToMinutes = refl
are_found functions.ToHours = refl
are_found functions.ToDays = refl

-- the first element that passes a test passes it
passes_here : {A : Type 0} (p : A → Bool) (x y : A) (ys : List A) (b : Bool) → p y ≡ b → find p (y ∷ ys) ≡ Some x
    → (find p ys ≡ Some x → p x ≡ true) → p x ≡ true
passes_here p x y ys true is e later =
    let here : Some y ≡ Some x = sym (ap (λ (b : Bool). cond b (Some y) (find p ys)) is) ∙ e in
    let one : y ≡ x = cc here in
    sym (ap p one) ∙ is
passes_here p x y ys false is e later = later (sym (ap (λ (b : Bool). cond b (Some y) (find p ys)) is) ∙ e)

find_passes : {A : Type 0} (p : A → Bool) (x : A) (xs : List A) → find p xs ≡ Some x → p x ≡ true
find_passes p x [] e = absurd (true≢false (sym (ap is_some e)))
find_passes p x (y ∷ ys) e = passes_here p x y ys (p y) refl e (find_passes p x ys)

pub have_their_names : HaveTheirNames
have_their_names n f e = (bytes_eq-Decides (name_of f) n).0 (find_passes (has_name n) f all_standard e)
