-- Texts with a minus and without one, and sizes that 64 bits hold.
use Rattle.std.proofs.Common.{◌≡◌, ◌≢◌, ℕ, ◌⊎◌, true, false, List, [], ◌∷◌, Option, Some, None, refl, arith, cond, ap, ◌∙◌, sym, ◌==◌, inl, inr}
use Rattle.std.proofs.lemmas.Bool.Decides.{nat_tests, eqb_tells}
use Rattle.cedar_decimal.specs.Decimals.{decimal_of, negative, positive, unsigned_of}
use Rattle.cedar_decimal.specs.Bounds.{within_64_bits}

-- what 64 bits without a sign don't hold does not fit with one either
pub negative_within : (size : Option ℕ) → negative (within_64_bits size) ≡ negative size
negative_within None = refl
negative_within (Some n) = grind (arith, nat_tests)

pub positive_within : (size : Option ℕ) → positive (within_64_bits size) ≡ positive size
positive_within None = refl
positive_within (Some n) = grind (arith, nat_tests)

pub behind_minus : (text rest : List ℕ) → text ≡ 45 ∷ rest → decimal_of text ≡ negative (unsigned_of rest)
behind_minus text rest e = ap decimal_of e

pub without_minus : (text : List ℕ) → ((rest : List ℕ) → text ≢ 45 ∷ rest) → decimal_of text ≡ positive (unsigned_of text)
without_minus [] other = refl
without_minus (c ∷ cs) other = by (eqb_tells c 45)
  where
    by : ((c == 45) ≡ true) × (c ≡ 45) ⊎ ((c == 45) ≡ false) × (c ≢ 45) → decimal_of (c ∷ cs) ≡ positive (unsigned_of (c ∷ cs))
    by (inl (test, is)) = absurd (other cs (ap (λ x. x ∷ cs) is))
    by (inr (test, is)) = ap (λ b. cond b (negative (unsigned_of cs)) (positive (unsigned_of (c ∷ cs)))) test

-- the same, where the code holds the size
pub signed : (text rest : List ℕ) → text ≡ 45 ∷ rest → decimal_of text ≡ negative (within_64_bits (unsigned_of rest))
signed text rest e = behind_minus text rest e ∙ sym (negative_within (unsigned_of rest))

pub unsigned : (text : List ℕ) → ((rest : List ℕ) → text ≢ 45 ∷ rest) →
    decimal_of text ≡ positive (within_64_bits (unsigned_of text))
unsigned text other = without_minus text other ∙ sym (positive_within (unsigned_of text))
