-- Numbers that share their first bits, of k bits in all.
use Rattle.std.proofs.Common.{◌≡◌, ◌≢◌, ℕ, ◌+◌, ◌-◌, ◌*◌, ◌/◌, ◌^◌, ◌<◌, ◌≤◌, arith, ap, ◌∙◌, sym, pow_pos}
use Rattle.std.proofs.Math.Nat.{div-eq_of_lt, pow-le-pow_right, div-div-eq-div-mul, add-div_right, add-zero, div-lt_iff_lt-mul, mul-le-mul_left}
use Rattle.std.proofs.lemmas.Nat.{pow-add, div-mul-add}

-- nothing is left of an address where all its bits are left out
pub none_left : (address dropped : ℕ) → address < 2 ^ 128 → 128 ≤ dropped → 0 ≡ address / 2 ^ dropped
none_left address dropped fits all =
    let large : 2 ^ 128 ≤ 2 ^ dropped = pow-le-pow_right {n = 2} (omega arith) all in
    sym (div-eq_of_lt (omega arith))

-- the first q bits are the first of the first p
front : (k p q a : ℕ) → q ≤ p → p ≤ k → a / 2 ^ (k - q) ≡ a / 2 ^ (k - p) / 2 ^ (p - q)
front k p q a less fits =
    let parts : k - q ≡ (k - p) + (p - q) = omega arith in
    ap (λ n. a / 2 ^ n) parts ∙ ap (λ n. a / n) (pow-add 2 (k - p) (p - q)) ∙ sym (div-div-eq-div-mul a (2 ^ (k - p)) (2 ^ (p - q)))

pub fewer_bits : (k p q a b : ℕ) → q ≤ p → p ≤ k → a / 2 ^ (k - p) ≡ b / 2 ^ (k - p) → a / 2 ^ (k - q) ≡ b / 2 ^ (k - q)
fewer_bits k p q a b less fits same = front k p q a less fits ∙ ap (λ n. n / 2 ^ (p - q)) same ∙ sym (front k p q b less fits)

-- a number is not in the same part of that length as one that is larger by the length
apart : (n part : ℕ) → 0 < part → (n + 0) / part ≢ (n + part) / part
apart n part some e = omega (arith, add-div_right n some, ap (λ m. m / part) (add-zero n), e)

-- two numbers that share the first p bits of n, but no more
pub record Apart (k p q n : ℕ) : Type 0 where
  pub one : ℕ
  pub other : ℕ
  pub one_fits : one < 2 ^ k
  pub other_fits : other < 2 ^ k
  pub one_shares : one / 2 ^ (k - p) ≡ n / 2 ^ (k - p)
  pub other_shares : other / 2 ^ (k - p) ≡ n / 2 ^ (k - p)
  pub differ : one / 2 ^ (k - q) ≢ other / 2 ^ (k - q)

pub apart_beyond : (k p q n : ℕ) → p < q → q ≤ k → n < 2 ^ k → Apart k p q n
apart_beyond k p q n more within fits =
    let large = 2 ^ (k - p) in
    let part = 2 ^ (k - q) in
    let first = n / large in
    let some : 0 < large = pow_pos (k - p) in
    let little : 0 < part = pow_pos (k - q) in
    let lengths : k - p ≡ (k - q) + (q - p) = omega arith in
    let parts : large ≡ part * 2 ^ (q - p) = ap (λ m. 2 ^ m) lengths ∙ pow-add 2 (k - q) (q - p) in
    let some_bits : 1 ≤ q - p = omega arith in
    let two : 2 ^ 1 ≤ 2 ^ (q - p) = pow-le-pow_right {n = 2} (omega arith) some_bits in
    let below : part < large = omega (arith, mul-le-mul_left part two) in
    let all : 2 ^ k ≡ 2 ^ p * large = (let e : k ≡ p + (k - p) = omega arith in ap (λ m. 2 ^ m) e ∙ pow-add 2 p (k - p)) in
    let inside : n < 2 ^ p * large = omega arith in
    let step : first + 1 ≤ 2 ^ p = (let low : first < 2 ^ p = (div-lt_iff_lt-mul some).1 inside in omega arith) in
    let room : first * large + large ≤ 2 ^ k = omega (arith, mul-le-mul_left large step) in
    record {
      one = first * large + 0;
      other = first * large + part;
      one_fits = omega arith;
      other_fits = omega arith;
      one_shares = div-mul-add first large 0 some;
      other_shares = div-mul-add first large part below;
      differ = apart (first * large) part little;
    }
