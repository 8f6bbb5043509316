-- Bytes, the highest first, are in the order of the numbers that they write.
use Rattle.std.proofs.Common.{◌≡◌, ℕ, zero, suc, ◌+◌, ◌*◌, ◌/◌, ◌%◌, ◌^◌, ◌<◌, ◌≤◌, ℤ, ◌<ℤ◌, ◌≤ℤ◌, ◌↔◌, true, FitsSigned, refl, arith, ap, ◌∙◌, sym, pow-suc}
use Rattle.std.specs.Int.{w64, byte_at, bytes_high_first}
use Rattle.std.specs.declared.cmp.Ordering.{Ordering}
use Rattle.std.specs.declared.cmp.Ordering.TheVariants.{Less, Equal, Greater}
use Rattle.std.specs.Ordering.{nat_cmp, int_cmp, is_lt, is_le, is_gt, is_ge, ordering_then, MatchOrdering}
use Rattle.std.specs.Cmp.{nat_cmp_is}
use Rattle.std.specs.Cmp.Lexicographic.{slice_cmp}
use Rattle.std.proofs.Math.Nat.{mul-le-mul_left, div-add-mod}
use Rattle.std.proofs.lemmas.Nat.{mod-mul-add}
use Rattle.std.proofs.lemmas.Cmp.{ranked, int_ranked, tied_itself, nat_list_cmp_total}
use Rattle.std.proofs.lemmas.Int.{ints}
use Rattle.cedar_decimal.specs.Keys.{rank_of, key_of_decimal}

matched : {P Q R S T U : Type 0} (o : Ordering) → (P → S) → (Q → T) → (R → U) → MatchOrdering o P Q R → MatchOrdering o S T U
matched Less f g h x = f x
matched Equal f g h x = g x
matched Greater f g h x = h x

-- the higher digits decide, and where they are the same the lower ones
pub digit_first : (base q r p s : ℕ) → r < base → s < base →
    ordering_then (nat_cmp q p) (nat_cmp r s) ≡ nat_cmp (q * base + r) (p * base + s)
digit_first base q r p s low other = nat_cmp_is (q * base + r) (p * base + s) _ (by (nat_cmp q p) (nat_cmp r s) (ranked q p _ refl) (ranked r s _ refl))
  where
    by : (o l : Ordering) → MatchOrdering o (q < p) (q ≡ p) (p < q) → MatchOrdering l (r < s) (r ≡ s) (s < r) →
        MatchOrdering (ordering_then o l) (q * base + r < p * base + s) (q * base + r ≡ p * base + s) (p * base + s < q * base + r)
    by Less l less g = let step : q + 1 ≤ p = omega arith in omega (arith, mul-le-mul_left base step)
    by Equal l same g =
        let high : q * base ≡ p * base = ap (λ z. z * base) same in
        matched l (λ x. omega arith) (λ x. omega arith) (λ x. omega arith) g
    by Greater l greater g = let step : p + 1 ≤ q = omega arith in omega (arith, mul-le-mul_left base step)

byte_is : (k n : ℕ) → byte_at k n ≡ n / 256 ^ k % 256
byte_is zero n = omega arith
byte_is (suc k) n = refl

-- the remainder by a larger number is a digit and the remainder by the smaller one
remainder_by : (base n : ℕ) → 0 < base → n % (base * 256) ≡ (n / base % 256) * base + n % base
remainder_by base n some =
    let digit = n / base % 256 in
    let low : n % base < base = omega arith in
    let whole : n ≡ (n / base / 256) * (base * 256) + (digit * base + n % base) =
    omega (arith, div-add-mod n base, ap (λ z. base * z) (div-add-mod (n / base) 256)) in
    let at_most : digit ≤ 255 = omega arith in
    let small : digit * base + n % base < base * 256 = omega (arith, mul-le-mul_left base at_most) in
    ap (λ z. z % (base * 256)) whole ∙ mod-mul-add (n / base / 256) (base * 256) (digit * base + n % base) small

power_some : (k : ℕ) → 0 < 256 ^ k
power_some zero = omega arith
power_some (suc k) = omega (arith, pow-suc 256 k, power_some k)

-- what of a number so many bytes hold
low_bytes : (k n : ℕ) → n % 256 ^ suc k ≡ (n / 256 ^ k % 256) * 256 ^ k + n % 256 ^ k
low_bytes k n = ap (λ z. n % z) (pow-suc 256 k) ∙ remainder_by (256 ^ k) n (power_some k)

pub bytes_ordered : (k n m : ℕ) → slice_cmp nat_cmp (bytes_high_first k n) (bytes_high_first k m) ≡ nat_cmp (n % 256 ^ k) (m % 256 ^ k)
bytes_ordered zero n m = nat_cmp_is (n % 1) (m % 1) Equal (omega arith)
bytes_ordered (suc k) n m =
    rw (byte_is k n, byte_is k m, bytes_ordered k n m, low_bytes k n, low_bytes k m)
    (digit_first (256 ^ k) (n / 256 ^ k % 256) (n % 256 ^ k) (m / 256 ^ k % 256) (m % 256 ^ k) (low k n) (low k m))
  where
    low : (k n : ℕ) → n % 256 ^ k < 256 ^ k
    low k n = omega (arith, power_some k)

rank_fits : (a : ℤ) → FitsSigned w64 a → rank_of a < 2 ^ 64
rank_fits a fits = omega (arith, ints)

ranks_ordered : (a b : ℤ) → FitsSigned w64 a → FitsSigned w64 b → int_cmp a b ≡ nat_cmp (rank_of a) (rank_of b)
ranks_ordered a b fa fb = nat_cmp_is (rank_of a) (rank_of b) (int_cmp a b)
    (matched (int_cmp a b) (λ h. omega (arith, ints)) (λ h. ap rank_of h) (λ h. omega (arith, ints)) (int_ranked a b (int_cmp a b) refl))

pub keys_ordered : (a b : ℤ) → FitsSigned w64 a → FitsSigned w64 b → slice_cmp nat_cmp (key_of_decimal a) (key_of_decimal b) ≡ int_cmp a b
keys_ordered a b fa fb =
    bytes_ordered 8 (rank_of a) (rank_of b)
    ∙ (λ i. nat_cmp (whole (rank_of a) (rank_fits a fa) i) (whole (rank_of b) (rank_fits b fb) i)) ∙ sym (ranks_ordered a b fa fb)
  where
    whole : (n : ℕ) → n < 2 ^ 64 → n % 256 ^ 8 ≡ n
    whole n fits = omega arith

-- the same key is the same order as to itself
pub keys_apart : (a b : ℤ) → FitsSigned w64 a → FitsSigned w64 b → key_of_decimal a ≡ key_of_decimal b → a ≡ b
keys_apart a b fa fb same =
    by (int_cmp a b) (int_ranked a b (int_cmp a b) refl)
    (sym (keys_ordered a b fa fb) ∙ ap (λ k. slice_cmp nat_cmp (key_of_decimal a) k) (sym same) ∙ tied_itself nat_list_cmp_total (key_of_decimal a))
  where
    by : (o : Ordering) → MatchOrdering o (a <ℤ b) (a ≡ b) (b <ℤ a) → o ≡ Equal → a ≡ b
    by Less h e = cc
    by Equal h e = h
    by Greater h e = cc

-- what each order says of two numbers
pub is_less : (a b : ℤ) (o : Ordering) → o ≡ int_cmp a b → (is_lt o ≡ true) ↔ (a <ℤ b)
is_less a b o e = by o (int_ranked a b o e)
  where
    by : (o : Ordering) → MatchOrdering o (a <ℤ b) (a ≡ b) (b <ℤ a) → (is_lt o ≡ true) ↔ (a <ℤ b)
    by Less h = (λ _. h, λ _. refl)
    by Equal h = (λ e. cc, λ less. absurd (omega (arith, ints)))
    by Greater h = (λ e. cc, λ less. absurd (omega (arith, ints)))

pub is_at_most : (a b : ℤ) (o : Ordering) → o ≡ int_cmp a b → (is_le o ≡ true) ↔ (a ≤ℤ b)
is_at_most a b o e = by o (int_ranked a b o e)
  where
    by : (o : Ordering) → MatchOrdering o (a <ℤ b) (a ≡ b) (b <ℤ a) → (is_le o ≡ true) ↔ (a ≤ℤ b)
    by Less h = (λ _. omega (arith, ints), λ _. refl)
    by Equal h = (λ _. omega (arith, ints), λ _. refl)
    by Greater h = (λ e. cc, λ less. absurd (omega (arith, ints)))

pub is_greater : (a b : ℤ) (o : Ordering) → o ≡ int_cmp a b → (is_gt o ≡ true) ↔ (b <ℤ a)
is_greater a b o e = by o (int_ranked a b o e)
  where
    by : (o : Ordering) → MatchOrdering o (a <ℤ b) (a ≡ b) (b <ℤ a) → (is_gt o ≡ true) ↔ (b <ℤ a)
    by Less h = (λ e. cc, λ more. absurd (omega (arith, ints)))
    by Equal h = (λ e. cc, λ more. absurd (omega (arith, ints)))
    by Greater h = (λ _. h, λ _. refl)

pub is_at_least : (a b : ℤ) (o : Ordering) → o ≡ int_cmp a b → (is_ge o ≡ true) ↔ (b ≤ℤ a)
is_at_least a b o e = by o (int_ranked a b o e)
  where
    by : (o : Ordering) → MatchOrdering o (a <ℤ b) (a ≡ b) (b <ℤ a) → (is_ge o ≡ true) ↔ (b ≤ℤ a)
    by Less h = (λ e. cc, λ more. absurd (omega (arith, ints)))
    by Equal h = (λ _. omega (arith, ints), λ _. refl)
    by Greater h = (λ _. omega (arith, ints), λ _. refl)
