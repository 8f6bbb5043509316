-- Chains of steps, and the headline: what the last response of a chain reports stands in every completion.
use Rattle.std.specs.Prelude.{List, map, Result, Ok, Err}
use denote.Ref.{Bor}
use Rattle.cedar_model.specs.World.{World, Functions}
use Rattle.cedar_model.specs.Settings.{Resolution, Setting}
use Rattle.cedar_model.specs.Agreement.{AgreesWithFunctions, HasNothingUnknown}
use Rattle.cedar_model.specs.Policies.{Policy}
use Rattle.cedar_model.specs.Configurations.{Configuration}
use Rattle.cedar_model.specs.Refusals.{Refusal}
use Rattle.cedar_model.specs.Chains.{ChainStep, Response, Begins, ChainAnswers, ChainOf}
use Rattle.cedar_model.specs.Authorizations.{HaveKnownConditions}
use Rattle.cedar_model.specs.Reports.{HaveNoResidual}
use Rattle.cedar_model.specs.Headline.{Premises, Headline}
use Rattle.cedar_layers.specs.declared.policies.entities.Entities.{Entities}
use Rattle.cedar_layers.specs.Stores.{store_view}
use Rattle.cedar_requests.specs.Substitutions.{values_for}
use Rattle.cedar_authorizer.specs.declared.responses.partial_response.PartialResponse.{PartialResponse}
use Rattle.cedar_authorizer.specs.responses.Rows.{rows_view}
use Rattle.cedar_authorizer.specs.Running.{errors_of}
use Rattle.cedar_authorizer.specs.Steps.{Says, ValuesByName}

-- the steps, each with its values for unknowns and its store
abbrev pub step_view : Resolution → (Bor ValuesByName × Bor Entities) → ChainStep
step_view resolution p =
    record { mapping = values_for p.0.now.entries; store = store_view p.1.now; resolution = resolution }

-- all with this resolution
abbrev pub steps_view : Resolution → List (Bor ValuesByName × Bor Entities) → List ChainStep
steps_view resolution steps = map (step_view resolution) steps

-- from a response of the model the chain of these steps leads to one that says this, or is refused so
module _ (c : Configuration) (steps : List ChainStep) where
  abbrev pub LeadsTo : Response → Result PartialResponse Refusal → Type 0
  LeadsTo first (Ok r) = (last : Response) × ChainOf c first steps last × Says r last
  LeadsTo first (Err e) = ChainAnswers c first steps (Err e)

  -- it is so from each response of the model that this one says
  abbrev pub IsTakenFurther : PartialResponse → Result PartialResponse Refusal → Type 0
  IsTakenFurther r x = (first : Response) → Says r first → LeadsTo first x

-- where nothing of the request, the store and the conditions is unknown, no residual is left
abbrev pub LeavesNothing : Configuration → Setting → List Policy → PartialResponse → Type 0
LeavesNothing c s ps r =
    HasNothingUnknown s → (ans : Functions) → AgreesWithFunctions ans c.calls → HaveKnownConditions ans ps
    → HaveNoResidual (rows_view r)

module _ (c : Configuration) (s : Setting) (ps : List Policy) (steps : List ChainStep) where
  -- what the headline says of a response, in every completion
  abbrev pub IsHeadline : PartialResponse → Type 0
  IsHeadline r =
      (ans : Functions) (w : World) → Premises c s.request s.store ps steps ans w (errors_of r)
      → Headline c.mode s.extensions ans w ps (rows_view r)

  -- the model's chain of these steps leads to a response that says this, or is refused so
  abbrev pub IsChain : Result PartialResponse Refusal → Type 0
  IsChain x = (first : Response) × Begins c s.request s.store ps first × LeadsTo c steps first x
