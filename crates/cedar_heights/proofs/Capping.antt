-- Sums and maxima of capped numbers.
use Rattle.std.proofs.Common.{◌≡◌, ◌∙◌, ℕ, suc, ◌+◌, max, ap, sym, arith}
use Rattle.cedar_heights.specs.Capped.{capped}

pub capped-suc : (n : ℕ) → capped (suc (capped n)) ≡ capped (suc n)
capped-suc n = omega arith

pub capped-max : (m n : ℕ) → max (capped m) (capped n) ≡ capped (max m n)
capped-max m n = omega arith

-- one part more was looked at: what was found and what is left are together as high as before
pub one_more : (all rest part found after total : ℕ) → all ≡ max part rest → after ≡ max (capped part) found →
    max (capped all) found ≡ total → max (capped rest) after ≡ total
one_more all rest part found after total is step whole = omega arith

pub ruleset capping = (capped-suc, capped-max)
