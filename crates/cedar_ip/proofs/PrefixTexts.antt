-- The length of a prefix, as it is read and as it is written.
use Rattle.std.proofs.Common.{◌≡◌, ℕ, ◌^◌, ◌<◌, ◌≤◌, Bool, true, false, ◌&&◌, cond, nat_le, List, Some, None, refl, arith, ap, ◌∙◌, decimal}
use Rattle.std.specs.Str.Parse.{digits_value}
use Rattle.std.proofs.lemmas.Bool.{and_parts, and_from, le-leb, leb-true}
use Rattle.std.proofs.lemmas.Fmt.{decimal_is_IsNumeral}
use Rattle.cedar_ip.specs.Texts.{prefix_of, is_plain}
use Rattle.cedar_ip.proofs.Digits.{plain_is, plain_from}

-- which test gives a value
pub picked : {A : Type 0} (b : Bool) (x y : A) → cond b (Some x) None ≡ Some y → (b ≡ true) × (x ≡ y)
picked true x y h = (refl, cc)
picked false x y h = (cc, cc)

pub prefix_written : (bits : ℕ) (text : List ℕ) (n : ℕ) → bits < 2 ^ 8 → prefix_of bits text ≡ Some n → (text ≡ decimal n) × (n ≤ bits)
prefix_written bits text n few h =
    let (tests, value) = picked (is_plain text && nat_le (digits_value 10 text) bits) (digits_value 10 text) n h in
    let (plain, least) = and_parts (is_plain text) (nat_le (digits_value 10 text) bits) tests in
    let at_most : digits_value 10 text ≤ bits = leb-true (digits_value 10 text) bits least in
    (plain_is text plain (omega arith) ∙ ap decimal value, omega arith)

pub prefix_read : (bits n : ℕ) → bits < 2 ^ 8 → n ≤ bits → prefix_of bits (decimal n) ≡ Some n
prefix_read bits n few fits =
    let value : digits_value 10 (decimal n) ≡ n = (decimal_is_IsNumeral n (omega arith)).1 in
    let within : nat_le (digits_value 10 (decimal n)) bits ≡ true = le-leb (digits_value 10 (decimal n)) bits (omega arith) in
    ap (λ b. cond b (Some (digits_value 10 (decimal n))) None)
    (and_from (is_plain (decimal n)) (nat_le (digits_value 10 (decimal n)) bits) (plain_from n (omega arith)) within)
    ∙ ap Some value
