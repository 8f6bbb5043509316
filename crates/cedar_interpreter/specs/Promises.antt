-- What an evaluation promises.
use Rattle.std.specs.Prelude.{◌≡◌, ◌≢◌, ◌↔◌, ℕ, ◌+◌, ◌≤◌}
use Rattle.cedar_model.specs.Terms.{Text, Term}
use Rattle.cedar_model.specs.Values.{AbstractValue}
use Rattle.cedar_model.specs.World.{World, Functions}
use Rattle.cedar_model.specs.Meaning.{meaning}
use Rattle.cedar_model.specs.Failures.{Answer, limit}
use Rattle.cedar_model.specs.Settings.{RequestPart, Setting}
use Rattle.cedar_model.specs.Rules.{StoredCalls, Runs, Meets, Allows, Exceeds}
use Rattle.cedar_model.specs.Agreement.{height, IsKnown, HasNothingUnknown, AgreesWithFunctions, CompletesWith, Fits, StandsFor, own_world}
use Rattle.cedar_model.specs.Authorizations.{IsExact}
use Rattle.cedar_model.specs.Depth.{IsNoHigher, bound_of}
use Rattle.cedar_model.specs.Restricted.{IsGivenSound}
use Rattle.cedar_interpreter.specs.declared.evaluation.Evaluation.{Evaluation}
use Rattle.cedar_interpreter.specs.Settings.{Speaks, evaluation_setting, calls_in}

-- where nothing is unknown, the meaning's value or first error in the own world, and the recursion limit by the need, which is
-- at most the height
abbrev pub IsKnownExactly : Setting → StoredCalls → ℕ → Term → Answer → Type 0
IsKnownExactly s calls levels t a =
    HasNothingUnknown s → (ans : Functions) → AgreesWithFunctions ans calls → IsKnown ans t →
    (sigma : Text → AbstractValue) → IsExact calls ans (own_world s sigma) s levels t a

-- residual soundness: in every completion a value is faithful and the meaning's, an error is one of the meaning, and a residual
-- fits the world and has the meaning's outcome without slots
abbrev pub IsResiduallySound : Setting → StoredCalls → Term → Answer → Type 0
IsResiduallySound s calls t a =
    (ans : Functions) (w : World) → CompletesWith calls ans w s → Fits ans w t → a ≢ limit →
    StandsFor s.extensions ans w a (meaning s.extensions ans w s.slots t)

-- the depth bound: where the expression and all that is given (with deep resolution twice that) are together no higher than the
-- levels, no recursion limit
abbrev pub KeepsDepthBound : Setting → StoredCalls → ℕ → Term → Answer → Type 0
KeepsDepthBound s calls levels t a =
    (b : ℕ) → IsNoHigher calls s s.map b → height t + bound_of s.resolution b ≤ levels → a ≢ limit

-- the recursion limit exactly where the need is above the levels
abbrev pub IsLimitByNeed : Setting → StoredCalls → ℕ → Term → Answer → Type 0
IsLimitByNeed s calls levels t a = a ≡ limit ↔ Exceeds s calls t levels

-- any other answer is one that the rules allow
abbrev pub IsAllowed : Setting → StoredCalls → Term → Answer → Type 0
IsAllowed s calls t a = a ≢ limit → Allows s calls t a

-- what is promised of the answer to an expression, with so many levels: what the rules give; the recursion limit exactly where
-- the need is above the levels, else what the rules allow; and the three above
pub record IsPromised (s : Setting) (calls : StoredCalls) (levels : ℕ) (t : Term) (a : Answer) : Type 0 where
  pub runs : Runs s calls levels t a
  pub limited : IsLimitByNeed s calls levels t a
  pub allowed : IsAllowed s calls t a
  pub known : IsKnownExactly s calls levels t a
  pub sound : IsResiduallySound s calls t a
  pub deep_enough : KeepsDepthBound s calls levels t a

-- ---- what an evaluation promises, for whatever request it speaks of

-- it answers as the rules say
abbrev pub RunsIn : {X : Type 0} {F : X → Type 0} {g : _} → Evaluation X F g → ℕ → Term → Answer → Type 0
RunsIn e levels t a = (r : RequestPart) → Speaks r e → Meets (Runs (evaluation_setting r e) (calls_in e) levels t) a

-- and as promised, where what is given is sound
abbrev pub PromisedIn : {X : Type 0} {F : X → Type 0} {g : _} → Evaluation X F g → ℕ → Term → Answer → Type 0
PromisedIn e levels t a =
    (r : RequestPart) → Speaks r e → IsGivenSound (calls_in e) (evaluation_setting r e) →
    Meets (IsPromised (evaluation_setting r e) (calls_in e) levels t) a
