-- Longs: a number that fits 64 bits is one.
use Rattle.std.specs.Prelude.{◌≡◌, ℤ, pos, negsuc, true, FitsSigned}
use Rattle.std.specs.Int.{w64}
use Rattle.std.proofs.Common.{le-leb, arith}
use Rattle.cedar_model.specs.Outcomes.{is_long}

pub fits_long : (n : ℤ) → FitsSigned w64 n → is_long n ≡ true
unfolding is_long
fits_long (pos n) f = le-leb n 9223372036854775807 (omega (arith, f.sfits))
fits_long (negsuc n) f = le-leb n 9223372036854775807 (omega (arith, f.sfits))
