-- The headline: what the last response of a chain reports stands, in every completion.
use Rattle.std.specs.Prelude.{◌≡◌, ℕ, List, [], ◌∷◌, Some}
use Rattle.cedar_model.specs.Terms.{Text}
use Rattle.cedar_model.specs.Values.{Represented}
use Rattle.cedar_model.specs.World.{World, Extensions, Functions}
use Rattle.cedar_model.specs.Failures.{Failure}
use Rattle.cedar_model.specs.Settings.{RequestPart, Store, Resolution}
use Rattle.cedar_model.specs.Rules.{StoredCalls}
use Rattle.cedar_model.specs.Agreement.{AgreesWithFunctions, AgreesWithRequest, AgreesWithStore, AgreesWithMap}
use Rattle.cedar_model.specs.Agreement.{IsFaithful, IsFaithfulPart, IsFaithfulContext, FitsPart, FitsContext}
use Rattle.cedar_model.specs.Agreement.{EachStored, AnswerFaithfully}
use Rattle.cedar_model.specs.Policies.{Policy, ErrorHandling}
use Rattle.cedar_model.specs.Configurations.{Configuration, configured}
use Rattle.cedar_model.specs.Responses.{Row, Stand, FitPolicies, AreConditions}
use Rattle.cedar_model.specs.Chains.{Mapping, Response, Begins, ChainStep, ChainOf}
use Rattle.cedar_model.specs.Authorizations.{HaveNoLimit}
use Rattle.cedar_model.specs.Reports.{HaveNoResidual}
use Rattle.cedar_model.specs.laws.Reports.{ReportsHold, AreDecidedAs}

module _ (X : Extensions) (ans : Functions) (w : World) where
  -- a store that a world agrees with, of faithful values, whose residuals fit the world
  pub record CompletesStore (store : Store) : Type 0 where
    pub store_agrees : AgreesWithStore X ans w store
    pub stored_values_are_faithful : EachStored (IsFaithfulPart X ans) store
    pub stored_residuals_fit : EachStored (FitsPart X ans w) store

  -- a map that a world agrees with, of faithful values
  pub record CompletesMap (m : Mapping) : Type 0 where
    pub map_agrees : AgreesWithMap w m
    pub mapped_values_are_faithful : (n : Text) (v : Represented) → m n ≡ Some v → IsFaithful X ans v

  -- each step has such a map and such a store
  abbrev pub CompletesSteps : List ChainStep → Type 0
  CompletesSteps [] = Unit {0}
  CompletesSteps (step ∷ steps) = CompletesMap step.mapping × CompletesStore step.store × CompletesSteps steps

-- what the headline takes of functions and a world, of a chain from this request and this store by these steps, whose
-- last response has these errors
pub record Premises (c : Configuration) (request : RequestPart) (store : Store) (ps : List Policy)
    (steps : List ChainStep) (ans : Functions) (w : World) (errors : List (Text × Failure)) : Type 0 where
  -- the world agrees with the request, each store and each map, and fits each condition, the context and each stored
  -- residual
  pub request_agrees : AgreesWithRequest c.extensions ans w request
  pub context_fits : FitsContext c.extensions ans w request.context_part
  pub first_store_agrees : CompletesStore c.extensions ans w store
  pub steps_agree : CompletesSteps c.extensions ans w steps
  pub conditions_fit : FitPolicies ans w ps
  -- stored functions are functional: each answers what `ans` says
  pub functions_are_functional : AgreesWithFunctions ans c.calls
  -- faithful values: those of the stores and the maps beside them, those of the context, and what functions answer to
  -- faithful ones
  pub context_is_faithful : IsFaithfulContext c.extensions ans request.context_part
  pub functions_are_faithful : AnswerFaithfully c.extensions ans c.calls
  -- no recorded recursion limit
  pub no_limit_is_recorded : HaveNoLimit errors

-- what these rows report stands; so a given decision is the completion's, and the policies that determine it lie
-- between the two bounds; and where no residual is left, decision and reasons are the definition's
pub record Headline (mode : ErrorHandling) (X : Extensions) (ans : Functions) (w : World) (ps : List Policy)
    (rows : List Row) : Type 0 where
  pub stands : Stand mode X ans w ps rows
  pub holds : ReportsHold mode X ans w ps rows
  pub defined : HaveNoResidual rows → AreDecidedAs mode X ans w ps rows

-- so it is of the last response of each chain that is answered; a policy's condition is a conjunction, as every
-- policy's is
abbrev pub ChainsStand : StoredCalls → Type 0
ChainsStand calls =
    (mode : ErrorHandling) (resolution : Resolution) (X : Extensions) (levels : ℕ) (request : RequestPart)
    (store : Store) (ps : List Policy) (steps : List ChainStep) (first last : Response) → AreConditions ps
    → Begins (configured calls mode resolution X levels) request store ps first
    → ChainOf (configured calls mode resolution X levels) first steps last → (ans : Functions) (w : World)
    → Premises (configured calls mode resolution X levels) request store ps steps ans w last.errors
    → Headline mode X ans w ps last.rows
