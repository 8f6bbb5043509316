-- What the headline takes, apart: that the values that are given are faithful, and that a world agrees with what is
-- given, and fits it.
use Rattle.std.specs.Prelude.{◌≡◌, ℕ, List, [], ◌∷◌, Some}
use Rattle.cedar_model.specs.Terms.{Text}
use Rattle.cedar_model.specs.Values.{Represented}
use Rattle.cedar_model.specs.World.{World, Extensions, Functions}
use Rattle.cedar_model.specs.Failures.{Failure}
use Rattle.cedar_model.specs.Settings.{RequestPart, Store, Resolution}
use Rattle.cedar_model.specs.Rules.{StoredCalls}
use Rattle.cedar_model.specs.Agreement.{AgreesWithRequest, AgreesWithStore, AgreesWithMap, IsFaithful, IsFaithfulPart}
use Rattle.cedar_model.specs.Agreement.{IsFaithfulContext, FitsPart, FitsContext, EachStored}
use Rattle.cedar_model.specs.Policies.{Policy, ErrorHandling}
use Rattle.cedar_model.specs.Configurations.{configured}
use Rattle.cedar_model.specs.Responses.{FitPolicies}
use Rattle.cedar_model.specs.Chains.{Mapping, ChainStep}
use Rattle.cedar_model.specs.Authorizations.{HaveNoLimit}
use Rattle.cedar_model.specs.Headline.{Premises}

-- ---- faithful values

module _ (X : Extensions) (ans : Functions) where
  -- each value that a map has for an unknown is faithful
  abbrev pub IsFaithfulMap : Mapping → Type 0
  IsFaithfulMap m = (n : Text) (v : Represented) → m n ≡ Some v → IsFaithful X ans v

  -- so are those of the map and of the store of each step
  abbrev pub AreFaithfulSteps : List ChainStep → Type 0
  AreFaithfulSteps [] = Unit {0}
  AreFaithfulSteps (step ∷ steps) =
      IsFaithfulMap step.mapping × EachStored (IsFaithfulPart X ans) step.store × AreFaithfulSteps steps

  -- so are all that a chain from this request and this store by these steps is given
  pub record GivesFaithfulValues (request : RequestPart) (store : Store) (steps : List ChainStep) : Type 0 where
    pub context_is_faithful : IsFaithfulContext X ans request.context_part
    pub store_is_faithful : EachStored (IsFaithfulPart X ans) store
    pub steps_are_faithful : AreFaithfulSteps steps

-- ---- a world

module _ (X : Extensions) (ans : Functions) (w : World) where
  -- the world agrees with a store, and fits its residuals
  pub record CompletesResiduals (store : Store) : Type 0 where
    pub store_agrees : AgreesWithStore X ans w store
    pub stored_residuals_fit : EachStored (FitsPart X ans w) store

  -- it agrees with the map and the store of each step, and fits that store's residuals
  abbrev pub AgreesWithSteps : List ChainStep → Type 0
  AgreesWithSteps [] = Unit {0}
  AgreesWithSteps (step ∷ steps) = AgreesWithMap w step.mapping × CompletesResiduals step.store × AgreesWithSteps steps

-- the world agrees with the request, each store and each map, and fits each condition, the context and each stored
-- residual; and no recursion limit is recorded
pub record AgreesWithAll (X : Extensions) (request : RequestPart) (store : Store) (ps : List Policy)
    (steps : List ChainStep) (ans : Functions) (w : World) (errors : List (Text × Failure)) : Type 0 where
  pub request_agrees : AgreesWithRequest X ans w request
  pub context_fits : FitsContext X ans w request.context_part
  pub first_store_agrees : CompletesResiduals X ans w store
  pub steps_agree : AgreesWithSteps X ans w steps
  pub conditions_fit : FitPolicies ans w ps
  pub no_limit_is_recorded : HaveNoLimit errors

-- of functions the headline takes no more: its premises are met where the values that are given are faithful and a
-- world agrees
abbrev pub NothingIsOwedOf : StoredCalls → Extensions → Functions → Type 0
NothingIsOwedOf calls X ans =
    (mode : ErrorHandling) (resolution : Resolution) (levels : ℕ) (request : RequestPart) (store : Store)
    (ps : List Policy) (steps : List ChainStep) (w : World) (errors : List (Text × Failure))
    → GivesFaithfulValues X ans request store steps → AgreesWithAll X request store ps steps ans w errors
    → Premises (configured calls mode resolution X levels) request store ps steps ans w errors
