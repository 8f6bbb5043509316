-- Counts as a `usize` has them.
use Rattle.std.proofs.Common.{◌≡◌, ◌+◌, ℕ, arith}
use Rattle.cedar_heights.specs.Capped.{capped}

-- so many more are counted: what is counted and what is left are together as many as before
pub counted_on : (all rest own count after total : ℕ) → all ≡ own + rest → after ≡ capped (own + count) →
    capped (count + all) ≡ total → capped (after + rest) ≡ total
counted_on all rest own count after total is step whole = omega arith

pub ruleset counting = (counted_on)
