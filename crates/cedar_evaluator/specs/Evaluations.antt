-- What an evaluator is given, and what it promises of a value that is asked for.
use Rattle.std.specs.Prelude.{◌≡◌, ◌≢◌, ℕ, Bool, Option, Result, Err}
use Rattle.cedar_model.specs.Terms.{Text, Term, Variable}
use Rattle.cedar_model.specs.Values.{AbstractValue, Represented}
use Rattle.cedar_model.specs.World.{Slots, Extensions, Functions}
use Rattle.cedar_model.specs.Failures.{Failure, out_of_memory, PartialValue, Answer}
use Rattle.cedar_model.specs.Settings.{RequestPart, Store, Resolution, Setting}
use Rattle.cedar_model.specs.Rules.{StoredCalls, Runs, Meets}
use Rattle.cedar_model.specs.Agreement.{HasNothingUnknown, AgreesWithFunctions, IsKnown, own_world}
use Rattle.cedar_model.specs.Authorizations.{IsExactDecision}
use Rattle.cedar_values.specs.Residuals.{partial_view}
use Rattle.cedar_layers.specs.declared.policies.policy.Policy.{Policy}
use Rattle.cedar_layers.specs.Policies.{policy_view, condition_term}
use Rattle.cedar_layers.specs.Stores.{store_view}
use Rattle.cedar_extensions.specs.declared.extensions.Extensions as stored
use Rattle.cedar_extensions.specs.Extensions.{extensions_view, calls_of}
use Rattle.cedar_restricted.specs.Evaluations.{only_values}
use Rattle.cedar_interpreter.specs.declared.evaluation.Given.{Given}
use Rattle.cedar_interpreter.specs.Settings.{mapper_view, resolution_view, given_for}
use Rattle.cedar_interpreter.specs.Promises.{IsKnownExactly, IsResiduallySound, KeepsDepthBound, IsLimitByNeed, IsAllowed, IsPromised}
use Rattle.cedar_evaluator.specs.declared.evaluator.Evaluator.{Evaluator}
use Rattle.cedar_evaluator.specs.Variables.{request_given}

-- what an evaluator of this request is given over this store, with these extensions, these values of unknowns and this
-- resolution, for an expression with these slots
abbrev pub setting_for : RequestPart → Store → Extensions → (Text → Option Represented) → Resolution → Slots → Setting
setting_for r s x m resolution slots =
    record {
      request = r;
      store = s;
      map = m;
      slots = slots;
      extensions = x;
      resolution = resolution;
    }

-- what stands for the variables
abbrev pub variables_of : {X : Type 0} {F : X → Type 0} {g : _} → Given X F g → Variable → PartialValue
variables_of given v = partial_view (given_for given v)

-- the request that the evaluator answers for
abbrev pub request_in : {X : Type 0} {F : X → Type 0} {g : _} → Evaluator X F g → RequestPart
request_in v = request_given (variables_of v.given)

-- what the evaluator is given
abbrev pub setting_of : {X : Type 0} {F : X → Type 0} {g : _} → Evaluator X F g → Slots → Setting
setting_of v slots =
    setting_for (request_in v) (store_view v.given.entities.now) (extensions_view v.given.extensions.now)
    (mapper_view v.given.mapper) (resolution_view v.given.resolution) slots

-- what its stored functions may answer
abbrev pub calls_in : {X : Type 0} {F : X → Type 0} {g : _} → Evaluator X F g → StoredCalls
calls_in v = calls_of v.given.extensions.now

-- how many levels deep it goes
abbrev pub limit_of : {X : Type 0} {F : X → Type 0} {g : _} → Evaluator X F g → ℕ
limit_of v = v.limit

-- the extensions themselves
abbrev pub extensions_given : {X : Type 0} {F : X → Type 0} {g : _} → Evaluator X F g → stored.Extensions X F g
extensions_given v = v.given.extensions.now

-- the same setting, but with these values of unknowns
abbrev pub setting_with_values : Setting → (Text → Option Represented) → Setting
setting_with_values s m =
    record {
      request = s.request;
      store = s.store;
      map = m;
      slots = s.slots;
      extensions = s.extensions;
      resolution = s.resolution;
    }

-- the same setting, but with this resolution
abbrev pub resolving : Resolution → Setting → Setting
resolving resolution s = setting_for s.request s.store s.extensions s.map resolution s.slots

-- ---- what is promised of the answer to an expression, unless out of memory

-- it is what the rules give within the limit
abbrev pub RunsByRules : {X : Type 0} {F : X → Type 0} {g : _} → Evaluator X F g → Slots → Term → Answer → Type 0
RunsByRules v slots t = Meets (Runs (setting_of v slots) (calls_in v) (limit_of v) t)

-- it is the recursion limit exactly where the need is above the limit
abbrev pub MeetsLimitByNeed : {X : Type 0} {F : X → Type 0} {g : _} → Evaluator X F g → Slots → Term → Answer → Type 0
MeetsLimitByNeed v slots t = Meets (IsLimitByNeed (setting_of v slots) (calls_in v) (limit_of v) t)

-- any other answer is one that the rules allow
abbrev pub IsAllowedByRules : {X : Type 0} {F : X → Type 0} {g : _} → Evaluator X F g → Slots → Term → Answer → Type 0
IsAllowedByRules v slots t = Meets (IsAllowed (setting_of v slots) (calls_in v) t)

-- where nothing is unknown it is the meaning in the own world, or the recursion limit
abbrev pub MeansWhereKnown : {X : Type 0} {F : X → Type 0} {g : _} → Evaluator X F g → Slots → Term → Answer → Type 0
MeansWhereKnown v slots t = Meets (IsKnownExactly (setting_of v slots) (calls_in v) (limit_of v) t)

-- in every completion it stands for the meaning
abbrev pub StandsInCompletions : {X : Type 0} {F : X → Type 0} {g : _} → Evaluator X F g → Slots → Term → Answer → Type 0
StandsInCompletions v slots t = Meets (IsResiduallySound (setting_of v slots) (calls_in v) t)

-- where the expression and what is given (with deep resolution twice that) are together no higher than the limit, it is not the
-- recursion limit
abbrev pub StaysBelowLimit : {X : Type 0} {F : X → Type 0} {g : _} → Evaluator X F g → Slots → Term → Answer → Type 0
StaysBelowLimit v slots t = Meets (KeepsDepthBound (setting_of v slots) (calls_in v) (limit_of v) t)

-- all of these
abbrev pub IsPromisedBy : {X : Type 0} {F : X → Type 0} {g : _} → Evaluator X F g → Slots → Term → Answer → Type 0
IsPromisedBy v slots t = IsPromised (setting_of v slots) (calls_in v) (limit_of v) t

-- and of the answer to a policy's condition
abbrev pub IsPromisedOf : {X : Type 0} {F : X → Type 0} {g : _} → Evaluator X F g → Policy → Answer → Type 0
IsPromisedOf v p = IsPromisedBy v (policy_view p).slots (condition_term (policy_view p))

-- ---- what is promised where a value is asked for

-- what is promised of an expression; of a residual that is left, the error that it is
abbrev pub IsPromisedValue : Setting → StoredCalls → ℕ → Term → Answer → Type 0
IsPromisedValue s calls levels t a = (b : Answer) × IsPromised s calls levels t b × (a ≡ only_values b)

-- the value of an expression is as promised, unless out of memory
abbrev pub AnswersValue : {X : Type 0} {F : X → Type 0} {g : _} → Evaluator X F g → Slots → Term → Answer → Type 0
AnswersValue v slots t = Meets (IsPromisedValue (setting_of v slots) (calls_in v) (limit_of v) t)

-- where nothing is unknown, what is decided is exact in the own world
abbrev pub IsDecidedExactly : Setting → StoredCalls → ℕ → Term → Result Bool Failure → Type 0
IsDecidedExactly s calls levels t r =
    HasNothingUnknown s → (ans : Functions) → AgreesWithFunctions ans calls → IsKnown ans t →
    (sigma : Text → AbstractValue) → IsExactDecision calls ans (own_world s sigma) s levels t r

-- so is what is decided of a policy's condition, unless out of memory
abbrev pub DecidesWhereKnown : {X : Type 0} {F : X → Type 0} {g : _} → Evaluator X F g → Policy → Result Bool Failure → Type 0
DecidesWhereKnown v p r =
    r ≢ Err out_of_memory →
    IsDecidedExactly (setting_of v (policy_view p).slots) (calls_in v) (limit_of v) (condition_term (policy_view p)) r
