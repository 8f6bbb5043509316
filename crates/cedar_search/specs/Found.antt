-- Which candidates are permitted.
use Rattle.std.specs.Prelude.{◌≡◌, ◌&&◌, ◌++◌, Bool, true, false, List}
use Rattle.std.specs.List.{filter}
use Rattle.cedar_model.specs.Terms.{Text, EntityName}
use Rattle.cedar_model.specs.Values.{AbstractValue}
use Rattle.cedar_model.specs.World.{Functions}
use Rattle.cedar_model.specs.Policies as model
use Rattle.cedar_model.specs.Settings.{Setting}
use Rattle.cedar_model.specs.Agreement.{AgreesWithFunctions, HasNothingUnknown, own_world}
use Rattle.cedar_model.specs.Authorizations.{Authorized, HaveKnownConditions, AreNoHigher}
use Rattle.cedar_authorizer.specs.Responding.{IsKnownResponse, MeetsNoLimit}
use Rattle.cedar_authorizer.specs.Running.{IsConcreteRun}
use Rattle.cedar_search.specs.Questions.{Question, can_ask, asked_with}
use Rattle.cedar_search.specs.Kept.{AreKept}

abbrev pub is_allow : model.Decision → Bool
is_allow model.allow = true
is_allow model.deny = false

-- ---- one candidate

-- a response to the whole request with the candidate: by the rules of evaluation; and where nothing is unknown, by what
-- the policies mean
pub record IsResponseTo (q : Question) (e : EntityName) (a : Authorized) : Type 0 where
  pub by_rules : IsConcreteRun q.configuration (asked_with q e) q.policies a
  pub by_meaning : IsKnownResponse q.configuration (asked_with q e) q.policies a
  pub within_limit : MeetsNoLimit q.configuration (asked_with q e) q.policies a.errors

-- it is allowed or not as a response to that request decides
pub record IsAllowedAs (q : Question) (e : EntityName) (allowed : Bool) : Type 0 where
  pub response : Authorized
  pub responds : IsResponseTo q e response
  pub is_decision : allowed ≡ is_allow response.decided_as

-- it is permitted or not: an entity that the part can be, as it is allowed; no other
pub data IsDecided (q : Question) (e : EntityName) (permitted : Bool) : Type 0 where
  can : can_ask q e ≡ true → IsAllowedAs q e permitted → IsDecided q e permitted
  can_not : can_ask q e ≡ false → permitted ≡ false → IsDecided q e permitted

-- ---- all candidates

-- each candidate in order is decided, and it is found exactly where it is permitted
abbrev pub AreThePermitted : Question → List EntityName → List EntityName → Type 0
AreThePermitted q es found = AreKept (IsDecided q) es found

-- they are found behind what was found before
abbrev pub AreAdded : Question → List EntityName → List EntityName → List EntityName → Type 0
AreAdded q es before after = (found : List EntityName) × AreThePermitted q es found × (after ≡ before ++ found)

-- ---- where nothing else is unknown

-- with each entity as the part nothing of the request and the store is unknown
abbrev pub HasNothingElseUnknown : Question → Type 0
HasNothingElseUnknown q = (e : EntityName) → HasNothingUnknown (asked_with q e)

-- whether the policies allow what is asked, by what they mean
abbrev pub is_meant_allowed : Question → Functions → (Text → AbstractValue) → Setting → Bool
is_meant_allowed q ans sigma s =
    is_allow (model.decision (model.counted_each q.configuration.mode s.extensions ans (own_world s sigma) q.policies))

-- whether the candidate is permitted by what they mean
abbrev pub is_meant : Question → Functions → (Text → AbstractValue) → EntityName → Bool
is_meant q ans sigma e = can_ask q e && is_meant_allowed q ans sigma (asked_with q e)

-- where nothing else is unknown and no condition is higher than the limit, they are exactly the candidates that are
-- permitted by what the policies mean
abbrev pub AreThoseMeant : Question → List EntityName → List EntityName → Type 0
AreThoseMeant q es found =
    HasNothingElseUnknown q → (ans : Functions) → AgreesWithFunctions ans q.configuration.calls
    → HaveKnownConditions ans q.policies → AreNoHigher q.policies q.configuration.levels
    → (sigma : Text → AbstractValue) → found ≡ filter (is_meant q ans sigma) es
