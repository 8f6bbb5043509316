-- So many levels of an expression.
use Rattle.std.proofs.Common.{◌≡◌, ℕ, suc, ◌<◌, ◌-◌, Bool, true, false, refl, arith}
use Rattle.std.specs.Prelude.{zero}
use Rattle.json.specs.Json.{Json}
use Rattle.cedar_functions.specs.Functions.{Knowledge}
use Rattle.cedar_policy_json_reader.specs.declared.errors.RefusalReason.TheVariants as reasons
use Rattle.cedar_policy_json_reader.specs.Bounds.{said_there, left_there}
use Rattle.cedar_policy_json_reader.specs.Expressions.{undoubled_said, expression_said, level_said}
use Rattle.cedar_policy_json_reader.specs.Refusals.{refused}

-- one level over the rest
pub level_below : (b : Bool) (fs : Knowledge) (n : ℕ) (j : Json) → 0 < n
    → said_there b fs n j ≡ level_said (record { known = fs; left = left_there b fs (n - 1) }) (said_there b fs (n - 1)) j
unfolding undoubled_said expression_said
level_below b fs zero j h = absurd (omega (arith, h))
level_below true fs (suc n) j h = let e : suc n - 1 ≡ n = omega arith in rw e
level_below false fs (suc n) j h = let e : suc n - 1 ≡ n = omega arith in rw e

-- no level is left
pub too_deep : (b : Bool) (fs : Knowledge) (n : ℕ) (j : Json) → n ≡ 0 → said_there b fs n j ≡ refused reasons.TooDeep
unfolding undoubled_said expression_said
too_deep true fs zero j h = refl
too_deep false fs zero j h = refl
too_deep b fs (suc n) j h = absurd (omega (arith, h))

pub ruleset levels = (level_below)
