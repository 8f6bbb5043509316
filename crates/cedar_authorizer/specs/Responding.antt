-- What an authorizer promises of its responses.
use Rattle.std.specs.Prelude.{◌≡◌, List, map, Some}
use Rattle.cedar_model.specs.Failures.{Failure}
use Rattle.cedar_model.specs.Terms.{Text}
use Rattle.cedar_model.specs.Values.{AbstractValue}
use Rattle.cedar_model.specs.World.{World, Extensions, Functions}
use Rattle.cedar_model.specs.Settings.{Setting}
use Rattle.cedar_model.specs.Configurations.{Configuration}
use Rattle.cedar_model.specs.Agreement.{AgreesWithFunctions, HasNothingUnknown, own_world}
use Rattle.cedar_model.specs.Policies as model
use Rattle.cedar_model.specs.Authorizations.{Authorized, IsExactResponse, HaveNoLimit, HaveKnownConditions}
use Rattle.cedar_model.specs.Authorizations.{HaveKinds, policy_errors, AreNoHigher, Completes}
use Rattle.cedar_model.specs.Responses.{Row}
use Rattle.cedar_model.specs.Reports.{given_decision, HaveNoResidual}
use Rattle.cedar_layers.specs.declared.policies.policy_set.PolicySet.{PolicySet}
use Rattle.cedar_layers.specs.Policies.{decides_as}
use Rattle.cedar_layers.specs.PolicySets.{policies_view}

-- the policies of a set, as far as they decide
abbrev pub considered : PolicySet → List model.Policy
considered s = map decides_as (policies_view s)

-- ---- where nothing is unknown

-- decision and reasons are those of the policies in the own world, and the errors exactly those of the erring policies,
-- in their order, if none is the recursion limit
abbrev pub IsKnownResponse : Configuration → Setting → List model.Policy → Authorized → Type 0
IsKnownResponse c s ps r =
    HasNothingUnknown s → (ans : Functions) → AgreesWithFunctions ans c.calls → HaveKnownConditions ans ps →
    (sigma : Text → AbstractValue) → HaveNoLimit r.errors →
    IsExactResponse c.mode s.extensions ans (own_world s sigma) ps r

-- a given decision is that of the policies in a world, and the errors are exactly those of the erring ones
pub record IsDecidedExactly (mode : model.ErrorHandling) (X : Extensions) (ans : Functions) (w : World)
    (ps : List model.Policy) (rows : List Row) (errors : List (Text × Failure)) : Type 0 where
  pub decision_is : given_decision rows ≡ Some (model.decision (model.counted_each mode X ans w ps))
  pub errors_are : HaveKinds errors (policy_errors X ans w ps)

-- no residual is left, and if no error is the recursion limit the decision is given, that of the policies in the own
-- world, and the errors are exactly those of the erring policies, in their order
abbrev pub IsKnownRun : Configuration → Setting → List model.Policy → List Row → List (Text × Failure) → Type 0
IsKnownRun c s ps rows errors =
    HasNothingUnknown s → (ans : Functions) → AgreesWithFunctions ans c.calls → HaveKnownConditions ans ps →
    HaveNoResidual rows × ((sigma : Text → AbstractValue) → HaveNoLimit errors →
    IsDecidedExactly c.mode s.extensions ans (own_world s sigma) ps rows errors)

-- where no condition is higher than the limit, no error is the recursion limit
abbrev pub MeetsNoLimit : Configuration → Setting → List model.Policy → List (Text × Failure) → Type 0
MeetsNoLimit c s ps errors =
    HasNothingUnknown s → (ans : Functions) → AgreesWithFunctions ans c.calls → HaveKnownConditions ans ps →
    AreNoHigher ps c.levels → HaveNoLimit errors

-- the own world completes the call
abbrev pub OwnWorldCompletesCall : Setting → List model.Policy → Type 0
OwnWorldCompletesCall s ps =
    HasNothingUnknown s → (ans : Functions) → HaveKnownConditions ans ps → (sigma : Text → AbstractValue) →
    Completes ans (own_world s sigma) s ps
