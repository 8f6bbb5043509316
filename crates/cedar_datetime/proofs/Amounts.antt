-- Numbers that grow with their digits, and sums of amounts.
use Rattle.std.specs.Prelude.{◌≡◌, ℕ, ◌+◌, ◌-◌, ◌*◌, ◌^◌, ◌≤◌, ◌<◌, true, false, cond, List, [], ◌∷◌, Option, Some, None, nat_le, ◌⊎◌}
use Rattle.std.proofs.Common.{ap, arith, ◌∙◌, sym, inl, inr}
use Rattle.std.proofs.lemmas.Bool.{lt-leb}
use Rattle.std.proofs.lemmas.Bool.Decides.{leb_tells}
use Rattle.cedar_datetime.specs.Digits.{number_behind}
use Rattle.std.proofs.Math.Nat.{le-mul_of_pos_right}
use Rattle.cedar_datetime.specs.declared.duration.Unit.{Unit}
use Rattle.cedar_datetime.specs.declared.duration.Unit.TheVariants.{Days, Hours, Minutes, Seconds, Milliseconds}
use Rattle.cedar_datetime.specs.Duration.{milliseconds_of, capped, within, more_of}
use Rattle.cedar_datetime.specs.Summing.{summed}

pub grows : (n : ℕ) (ds : List ℕ) → n ≤ number_behind n ds
grows n [] = omega arith
grows n (c ∷ cs) = omega (arith, grows (n * 10 + (c - 48)) cs)

-- a number past the largest is none
pub beyond : (n : ℕ) → 2 ^ 63 < n → None ≡ capped n
beyond n much = ap (λ b. cond b (Some n) None) (sym (lt-leb n (2 ^ 63) much))

pub behind : (n : ℕ) (ds : List ℕ) → 2 ^ 63 < n → None ≡ capped (number_behind n ds)
behind n ds much = beyond (number_behind n ds) (omega (arith, much, grows n ds))

some : (unit : Unit) → 1 ≤ milliseconds_of unit
some Days = omega arith
some Hours = omega arith
some Minutes = omega arith
some Seconds = omega arith
some Milliseconds = omega arith

-- an amount that is too large is so with any unit
times : (n : ℕ) (unit : Unit) → n ≤ n * milliseconds_of unit
times n unit = le-mul_of_pos_right n (some unit)

-- what is capped part by part is capped as a whole
pub summed_is : (n : ℕ) (unit : Unit) (rest : Option ℕ) → summed (capped n) (milliseconds_of unit) (within rest) ≡ within (more_of (n * milliseconds_of unit) rest)
summed_is n unit rest = by n rest (leb_tells n (2 ^ 63))
  where
    small : (n m : ℕ) → ((nat_le m (2 ^ 63) ≡ true) × (m ≤ 2 ^ 63)) ⊎ ((nat_le m (2 ^ 63) ≡ false) × (2 ^ 63 < m)) → summed (Some n) (milliseconds_of unit) (capped m) ≡ capped (n * milliseconds_of unit + m)
    small n m (inl (fits, _)) = ap (λ b. summed (Some n) (milliseconds_of unit) (cond b (Some m) None)) fits
    small n m (inr (other, much)) =
        ap (λ b. summed (Some n) (milliseconds_of unit) (cond b (Some m) None)) other
        ∙ beyond (n * milliseconds_of unit + m) (omega (arith, much))

    by : (n : ℕ) (rest : Option ℕ) → ((nat_le n (2 ^ 63) ≡ true) × (n ≤ 2 ^ 63)) ⊎ ((nat_le n (2 ^ 63) ≡ false) × (2 ^ 63 < n)) → summed (capped n) (milliseconds_of unit) (within rest) ≡ within (more_of (n * milliseconds_of unit) rest)
    by n None (inl (fits, _)) = ap (λ b. summed (cond b (Some n) None) (milliseconds_of unit) None) fits
    by n None (inr (other, _)) = ap (λ b. summed (cond b (Some n) None) (milliseconds_of unit) None) other
    by n (Some m) (inl (fits, _)) =
        ap (λ b. summed (cond b (Some n) None) (milliseconds_of unit) (capped m)) fits ∙ small n m (leb_tells m (2 ^ 63))
    by n (Some m) (inr (other, much)) =
        ap (λ b. summed (cond b (Some n) None) (milliseconds_of unit) (capped m)) other
        ∙ beyond (n * milliseconds_of unit + m) (omega (arith, much, times n unit))
