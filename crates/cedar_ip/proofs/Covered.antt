-- A range is in another where the other's prefix is a front of its own.
use Rattle.std.proofs.Common.{◌≡◌, ℕ, ◌-◌, ◌*◌, ◌/◌, ◌^◌, ◌<◌, ◌≤◌, ◌⊎◌, Bool, true, false, ◌&&◌, nat_le, List, ◌∷◌, length, refl, arith, ap, ◌∙◌, sym, subst, inl, inr, ◌==◌}
use Rattle.std.proofs.lemmas.Bool.{and_parts, and_from, or_cases, or_left, or_right, cases_lt, leb-true, le-leb, eqb-true, eq-eqb, both_ways}
use Rattle.cedar_ip.specs.Ranges.{Family, ipv4, ipv6, Range, IsRange, size, number_of, address_of, code_of, key_of_range}
use Rattle.cedar_ip.specs.Keys.{is_key_of, lies_in, is_in_range}
use Rattle.cedar_ip.specs.Addresses.{IsWithin}
use Rattle.cedar_ip.proofs.Shares.{fewer_bits, apart_beyond}

-- the first range has the family of the second, and shares the bits of its prefix
pub record IsCovered (r s : Range) : Type 0 where
  pub same_family : r.family ≡ s.family
  pub longer : s.prefix ≤ r.prefix
  pub shares : address_of r / 2 ^ (size r.family - s.prefix) ≡ address_of s / 2 ^ (size r.family - s.prefix)

pub within_from : (r s : Range) → IsRange r → IsCovered r s → IsWithin r s
within_from r s is covered f a h =
    let fits : r.prefix ≤ size f = subst (λ g. r.prefix ≤ size g) (sym h.same_family) is.fits in
    let shares : address_of r / 2 ^ (size f - s.prefix) ≡ address_of s / 2 ^ (size f - s.prefix) =
    subst (λ g. address_of r / 2 ^ (size g - s.prefix) ≡ address_of s / 2 ^ (size g - s.prefix)) (sym h.same_family) covered.shares in
    record {
      same_family = h.same_family ∙ covered.same_family;
      an_address = h.an_address;
      same_prefix = fewer_bits (size f) r.prefix s.prefix a (address_of r) covered.longer fits h.same_prefix ∙ shares;
    }

pub within_to : (r s : Range) → IsRange r → IsRange s → IsWithin r s → IsCovered r s
within_to r s is other h =
    let own = h r.family (address_of r) (record { same_family = refl; an_address = is.an_address; same_prefix = refl }) in
    record { same_family = own.same_family; longer = longer own.same_family (cases_lt r.prefix s.prefix); shares = own.same_prefix }
  where
    longer : r.family ≡ s.family → (r.prefix < s.prefix) ⊎ (s.prefix ≤ r.prefix) → s.prefix ≤ r.prefix
    longer same (inr at_most) = at_most
    longer same (inl more) =
        let fits : s.prefix ≤ size r.family = subst (λ g. s.prefix ≤ size g) (sym same) other.fits in
        let two = apart_beyond (size r.family) r.prefix s.prefix (address_of r) more fits is.an_address in
        let one = h r.family two.one (record { same_family = refl; an_address = two.one_fits; same_prefix = two.one_shares }) in
        let next = h r.family two.other (record { same_family = refl; an_address = two.other_fits; same_prefix = two.other_shares }) in
        absurd (two.differ (one.same_prefix ∙ sym next.same_prefix))

-- what the keys are asked
key_is : (f : Family) (prefix : ℕ) (octets : List ℕ) → length octets * 8 ≡ size f → is_key_of f (code_of f ∷ prefix ∷ octets) ≡ true
key_is ipv4 prefix octets whole = eq-eqb (length (4 ∷ prefix ∷ octets)) 6 (omega arith)
key_is ipv6 prefix octets whole = eq-eqb (length (6 ∷ prefix ∷ octets)) 18 (omega arith)

-- the test of two keys of one family
abbrev bits_test : Family → ℕ → ℕ → List ℕ → List ℕ → Bool
bits_test f p q xs ys = nat_le q p && (number_of f xs / 2 ^ (size f - q) == number_of f ys / 2 ^ (size f - q))

abbrev Shares : Family → ℕ → ℕ → List ℕ → List ℕ → Type 0
Shares f p q xs ys = (q ≤ p) × (number_of f xs / 2 ^ (size f - q) ≡ number_of f ys / 2 ^ (size f - q))

lies_is : (f : Family) (p q : ℕ) (xs ys : List ℕ) → length xs * 8 ≡ size f → length ys * 8 ≡ size f →
    lies_in f (code_of f ∷ p ∷ xs) (code_of f ∷ q ∷ ys) ≡ bits_test f p q xs ys
lies_is f p q xs ys whole other = λ i. key_is f p xs whole i && (key_is f q ys other i && bits_test f p q xs ys)

lies_to : (f : Family) (p q : ℕ) (xs ys : List ℕ) → length xs * 8 ≡ size f → length ys * 8 ≡ size f →
    lies_in f (code_of f ∷ p ∷ xs) (code_of f ∷ q ∷ ys) ≡ true → Shares f p q xs ys
lies_to f p q xs ys whole other h =
    let n = number_of f xs / 2 ^ (size f - q) in
    let m = number_of f ys / 2 ^ (size f - q) in
    let (longer, same) = and_parts (nat_le q p) (n == m) (sym (lies_is f p q xs ys whole other) ∙ h) in
    (leb-true q p longer, eqb-true n m same)

lies_from : (f : Family) (p q : ℕ) (xs ys : List ℕ) → length xs * 8 ≡ size f → length ys * 8 ≡ size f →
    Shares f p q xs ys → lies_in f (code_of f ∷ p ∷ xs) (code_of f ∷ q ∷ ys) ≡ true
lies_from f p q xs ys whole other (longer, same) =
    let n = number_of f xs / 2 ^ (size f - q) in
    let m = number_of f ys / 2 ^ (size f - q) in
    lies_is f p q xs ys whole other ∙ and_from (nat_le q p) (n == m) (le-leb q p longer) (eq-eqb n m same)

-- and of keys of two families
not_both : (f : Family) (k l : List ℕ) → (is_key_of f k ≡ false) ⊎ (is_key_of f l ≡ false) → lies_in f k l ≡ true → ⊥
not_both f k l (inl none) h = both_ways (is_key_of f k) none (and_parts (is_key_of f k) _ h).0
not_both f k l (inr none) h = both_ways (is_key_of f l) none (and_parts (is_key_of f l) _ (and_parts (is_key_of f k) _ h).1).0

one_lies : (k l : List ℕ) → is_in_range k l ≡ true → (lies_in ipv4 k l ≡ true) ⊎ (lies_in ipv6 k l ≡ true)
one_lies k l h = or_cases (lies_in ipv4 k l) (lies_in ipv6 k l) h

ipv4_lies : (k l : List ℕ) → is_key_of ipv6 k ≡ false → is_in_range k l ≡ true → lies_in ipv4 k l ≡ true
ipv4_lies k l none h = by (one_lies k l h)
  where
    by : (lies_in ipv4 k l ≡ true) ⊎ (lies_in ipv6 k l ≡ true) → lies_in ipv4 k l ≡ true
    by (inl is) = is
    by (inr is) = absurd (not_both ipv6 k l (inl none) is)

ipv6_lies : (k l : List ℕ) → is_key_of ipv4 k ≡ false → is_in_range k l ≡ true → lies_in ipv6 k l ≡ true
ipv6_lies k l none h = by (one_lies k l h)
  where
    by : (lies_in ipv4 k l ≡ true) ⊎ (lies_in ipv6 k l ≡ true) → lies_in ipv6 k l ≡ true
    by (inl is) = absurd (not_both ipv4 k l (inl none) is)
    by (inr is) = is

range_to : (f g : Family) (p q : ℕ) (xs ys : List ℕ) → length xs * 8 ≡ size f → length ys * 8 ≡ size g →
    is_in_range (code_of f ∷ p ∷ xs) (code_of g ∷ q ∷ ys) ≡ true → (f ≡ g) × Shares f p q xs ys
range_to ipv4 ipv4 p q xs ys whole other h =
    (refl, lies_to ipv4 p q xs ys whole other (ipv4_lies (4 ∷ p ∷ xs) (4 ∷ q ∷ ys) refl h))
range_to ipv6 ipv6 p q xs ys whole other h = (refl, lies_to ipv6 p q xs ys whole other (ipv6_lies (6 ∷ p ∷ xs) (6 ∷ q ∷ ys) refl h))
range_to ipv4 ipv6 p q xs ys whole other h = absurd (not_both ipv4 (4 ∷ p ∷ xs) (6 ∷ q ∷ ys) (inr refl) (ipv4_lies (4 ∷ p ∷ xs) (6 ∷ q ∷ ys) refl h))
range_to ipv6 ipv4 p q xs ys whole other h = absurd (not_both ipv6 (6 ∷ p ∷ xs) (4 ∷ q ∷ ys) (inr refl) (ipv6_lies (6 ∷ p ∷ xs) (4 ∷ q ∷ ys) refl h))

range_from : (f g : Family) (p q : ℕ) (xs ys : List ℕ) → length xs * 8 ≡ size f → length ys * 8 ≡ size g →
    f ≡ g → Shares f p q xs ys → is_in_range (code_of f ∷ p ∷ xs) (code_of g ∷ q ∷ ys) ≡ true
range_from ipv4 ipv4 p q xs ys whole other same shares =
    or_left (lies_in ipv4 (4 ∷ p ∷ xs) (4 ∷ q ∷ ys)) (lies_in ipv6 (4 ∷ p ∷ xs) (4 ∷ q ∷ ys)) (lies_from ipv4 p q xs ys whole other shares)
range_from ipv6 ipv6 p q xs ys whole other same shares =
    or_right (lies_in ipv4 (6 ∷ p ∷ xs) (6 ∷ q ∷ ys)) (lies_in ipv6 (6 ∷ p ∷ xs) (6 ∷ q ∷ ys)) (lies_from ipv6 p q xs ys whole other shares)
range_from ipv4 ipv6 p q xs ys whole other same shares = cc
range_from ipv6 ipv4 p q xs ys whole other same shares = cc

-- the second address in the family of the first
same_number : (r s : Range) → r.family ≡ s.family →
    number_of r.family s.octets / 2 ^ (size r.family - s.prefix) ≡ address_of s / 2 ^ (size r.family - s.prefix)
same_number r s same = ap (λ g. number_of g s.octets / 2 ^ (size r.family - s.prefix)) same

pub in_range_to : (r s : Range) → IsRange r → IsRange s → is_in_range (key_of_range r) (key_of_range s) ≡ true → IsWithin r s
in_range_to r s is other h =
    let found = range_to r.family s.family r.prefix s.prefix r.octets s.octets is.whole other.whole h in
    within_from r s is (record { same_family = found.0; longer = found.1.0; shares = found.1.1 ∙ same_number r s found.0 })

pub in_range_from : (r s : Range) → IsRange r → IsRange s → IsWithin r s → is_in_range (key_of_range r) (key_of_range s) ≡ true
in_range_from r s is other h =
    let covered = within_to r s is other h in
    range_from r.family s.family r.prefix s.prefix r.octets s.octets is.whole other.whole covered.same_family
    (covered.longer, covered.shares ∙ sym (same_number r s covered.same_family))
