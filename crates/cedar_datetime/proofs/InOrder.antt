-- The order of keys.
use Rattle.std.proofs.Common.{◌≡◌, ℕ, zero, suc, ◌+◌, ◌*◌, ◌/◌, ◌%◌, ◌^◌, ◌<◌, ◌≤◌, List, length, Bool, true, false, ◌==◌, cond, get_or, refl, sym, ap, ◌∙◌, arith, Some, None, ℤ, pos, ◌+ℤ◌, ◌-ℤ◌, ◌<ℤ◌, FitsSigned, w64}
use Rattle.std.proofs.lemmas.Int.{ints}
use Rattle.std.proofs.lemmas.Bool.{eqb-true}
use Rattle.std.specs.declared.cmp.Ordering.{Ordering}
use Rattle.std.specs.declared.cmp.Ordering.TheVariants.{Less, Equal, Greater}
use Rattle.std.specs.Ordering.{MatchOrdering, nat_cmp, int_cmp, ordering_then}
use Rattle.std.specs.Cmp.{nat_cmp_is, int_cmp_is, ranks}
use Rattle.std.specs.Cmp.Lexicographic.{slice_cmp}
use Rattle.std.specs.Int.{byte_at, bytes_high_first, from_be_bytes}
use Rattle.std.proofs.Math.Nat.{mul-le-mul_right, mod-add-div', pow-suc}
use Rattle.std.proofs.lemmas.Nat.{be_bytes_8, mod-mul-add, from_be_bytes-to_be_bytes_8}
use Rattle.cedar_datetime.specs.Keys.{rank, key, value_of_key}

-- a number of two digits in base m is ordered by the first, and then by the second
joined : (m x y r s : ℕ) → r < m → s < m → (o p : Ordering) → MatchOrdering o (x < y) (x ≡ y) (y < x) → MatchOrdering p (r < s) (r ≡ s) (s < r) → MatchOrdering (ordering_then o p) (x * m + r < y * m + s) (x * m + r ≡ y * m + s) (y * m + s < x * m + r)
joined m x y r s small less Less p h k = omega (arith, mul-le-mul_right {m = x + 1} {n = y} m (omega (arith, h)))
joined m x y r s small less Greater p h k = omega (arith, mul-le-mul_right {m = y + 1} {n = x} m (omega (arith, h)))
joined m x y r s small less Equal Less h k = rw h (omega (arith, k))
joined m x y r s small less Equal Equal h k = rw (h, k)
joined m x y r s small less Equal Greater h k = rw h (omega (arith, k))

-- there is a power of 256
some : (k : ℕ) → 0 < 256 ^ k
some zero = omega arith
some (suc k) = rw (pow-suc 256 k) (omega (arith, some k))

-- the byte at place k, and what is below it
divided : (n m : ℕ) → 0 < m → n / m % 256 * m + n % m ≡ n % (m * 256)
divided n m h =
    let q = n / m / 256 in
    let r : n % m < m = omega arith in
    let x : n / m % 256 + 1 ≤ 256 = omega arith in
    let small : n / m % 256 * m + n % m < m * 256 = omega (arith, r, mul-le-mul_right m x) in
    let outer : n % m + n / m * m ≡ n = mod-add-div' n m in
    let inner : n / m % 256 + q * 256 ≡ n / m = mod-add-div' (n / m) 256 in
    let whole : q * (m * 256) + (n / m % 256 * m + n % m) ≡ n = omega (arith, outer, ap (λ z. z * m) inner) in
    sym (ap (λ z. z % (m * 256)) (sym whole) ∙ mod-mul-add q (m * 256) (n / m % 256 * m + n % m) small)

place : (k n : ℕ) → byte_at k n ≡ n / 256 ^ k % 256
place zero n = omega arith
place (suc k) n = refl

split : (k n : ℕ) → byte_at k n * 256 ^ k + n % 256 ^ k ≡ n % 256 ^ suc k
split k n = rw (place k n, pow-suc 256 k) (divided n (256 ^ k) (some k))

bytes_cmp : (k a b : ℕ) → slice_cmp nat_cmp (bytes_high_first k a) (bytes_high_first k b) ≡ nat_cmp (a % 256 ^ k) (b % 256 ^ k)
bytes_cmp zero a b = nat_cmp_is (a % 1) (b % 1) Equal (omega arith)
bytes_cmp (suc k) a b =
    ap (ordering_then (nat_cmp (byte_at k a) (byte_at k b))) (bytes_cmp k a b)
    ∙ nat_cmp_is _ _ _ (joined (256 ^ k) (byte_at k a) (byte_at k b) (a % 256 ^ k) (b % 256 ^ k) (omega (arith, some k)) (omega (arith, some k)) (nat_cmp (byte_at k a) (byte_at k b)) (nat_cmp (a % 256 ^ k) (b % 256 ^ k)) (ranks (byte_at k a) (byte_at k b)) (ranks (a % 256 ^ k) (b % 256 ^ k)))
    ∙ ap (λ x. nat_cmp x (byte_at k b * 256 ^ k + b % 256 ^ k)) (split k a)
    ∙ ap (nat_cmp (a % 256 ^ suc k)) (split k b)

-- the rank of a number of 64 bits is below 2 ^ 64
rank_small : (a : ℤ) → FitsSigned w64 a → rank a < 2 ^ 64
rank_small a fits = omega (arith, ints)

rank_is : (a : ℤ) → FitsSigned w64 a → pos (rank a) ≡ a +ℤ pos (2 ^ 63)
rank_is a fits = omega (arith, ints)

ranked : (a b : ℤ) → FitsSigned w64 a → FitsSigned w64 b → (o : Ordering) → MatchOrdering o (rank a < rank b) (rank a ≡ rank b) (rank b < rank a) → MatchOrdering o (a <ℤ b) (a ≡ b) (b <ℤ a)
ranked a b f g Less h = omega (arith, ints, rank_is a f, rank_is b g)
ranked a b f g Equal h = omega (arith, ints, rank_is a f, rank_is b g)
ranked a b f g Greater h = omega (arith, ints, rank_is a f, rank_is b g)

pub in_order : (a b : ℤ) → FitsSigned w64 a → FitsSigned w64 b → slice_cmp nat_cmp (key a) (key b) ≡ int_cmp a b
in_order a b f g =
    bytes_cmp 8 (rank a) (rank b)
    ∙ ap (λ x. nat_cmp x (rank b % 2 ^ 64)) (omega (arith, rank_small a f))
    ∙ ap (nat_cmp (rank a)) (omega (arith, rank_small b g))
    ∙ int_cmp_is a b (nat_cmp (rank a) (rank b)) (ranked a b f g (nat_cmp (rank a) (rank b)) (ranks (rank a) (rank b)))

pub read_back : (a : ℤ) → FitsSigned w64 a → value_of_key (key a) ≡ Some a
read_back a fits =
    ap (λ n. Some (pos n -ℤ pos (2 ^ 63))) (from_be_bytes-to_be_bytes_8 (rank a) (rank_small a fits))
    ∙ ap Some (omega (arith, ints, rank_is a fits))

-- the number of eight bytes has them as its key
pub bytes_back : (bs : List ℕ) (a : ℤ) → ((i : ℕ) → get_or bs i 0 < 256) → value_of_key bs ≡ Some a → key a ≡ bs
bytes_back bs a small e = by (length bs == 8) refl e
  where
    by : (b : Bool) → (length bs == 8) ≡ b → cond b (Some (pos (from_be_bytes w64 bs) -ℤ pos (2 ^ 63))) None ≡ Some a → key a ≡ bs
    by true eight is =
        let same : pos (from_be_bytes w64 bs) -ℤ pos (2 ^ 63) ≡ a = cc in
        let back : rank (pos (from_be_bytes w64 bs) -ℤ pos (2 ^ 63)) ≡ from_be_bytes w64 bs = omega (arith, ints) in
        be_bytes_8 bs (rank a) (eqb-true (length bs) 8 eight) small (ap rank (sym same) ∙ back)
    by false other is = absurd (cc)
