-- Chains whose steps are taken call by call, by authorizers that differ in their resolution alone.
use Rattle.std.specs.Prelude.{◌≡◌, List, [], ◌∷◌, ◌++◌, map, Result, Ok}
use Rattle.cedar_model.specs.Settings.{RequestPart, Store}
use Rattle.cedar_model.specs.Policies.{Policy}
use Rattle.cedar_model.specs.Configurations.{Configuration}
use Rattle.cedar_model.specs.Refusals.{Refusal}
use Rattle.cedar_model.specs.Chains.{Mapping, ChainStep}
use Rattle.cedar_model.specs.Authorizations.{HaveNoLimit}
use Rattle.cedar_layers.specs.Policies.{PolicyView, decides_as}
use Rattle.cedar_requests.specs.Requests.{request_view}
use Rattle.cedar_authorizer.specs.declared.responses.partial_response.PartialResponse.{PartialResponse}
use Rattle.cedar_authorizer.specs.Configured.{asked_of}
use Rattle.cedar_authorizer.specs.Headline.{IsHeadline, IsChain}
use Rattle.cedar_authorizer.specs.Running.{errors_of, request_of, IsRun}
use Rattle.cedar_authorizer.specs.Steps.{response_said, IsStep}

-- a chain of these steps answers this: it began with this request, over this store, with these policies
abbrev pub ChainGives : Configuration → RequestPart → Store → List Policy → List ChainStep
    → Result PartialResponse Refusal → Type 0
ChainGives c request store ps steps x = IsChain c (asked_of c request store) ps steps x

-- the step of a chain that is taken with a configuration
abbrev pub taken_with : Configuration → Mapping × Store → ChainStep
taken_with c step = record { mapping = step.0; store = step.1; resolution = c.resolution }

-- a run answers what a chain without steps gives
abbrev pub BeginsChains : Configuration → PartialResponse → Type 0
BeginsChains c r =
    (request : RequestPart) (store : Store) (ps : List Policy) → request_view (request_of r) ≡ request
    → IsRun c (asked_of c request store) ps r → ChainGives c request store ps [] (Ok r)

-- where a chain gives a response without the recursion limit, a step from it answers what the chain with that step
-- gives
abbrev pub TakesChainsFurther : Configuration → Configuration → PartialResponse → Type 0
TakesChainsFurther c next r =
    (request : RequestPart) (store : Store) (ps : List Policy) (steps : List ChainStep) (step : Mapping × Store)
    (x : Result PartialResponse Refusal) → ChainGives c request store ps steps (Ok r) → HaveNoLimit (errors_of r)
    → IsStep next step (response_said r) x → ChainGives c request store ps (steps ++ taken_with next step ∷ []) x

-- what a chain gives has the headline
abbrev pub EndsWithHeadline : Configuration → PartialResponse → Type 0
EndsWithHeadline c r =
    (request : RequestPart) (store : Store) (ps : List PolicyView) (steps : List ChainStep)
    → ChainGives c request store (map decides_as ps) steps (Ok r)
    → IsHeadline c (asked_of c request store) (map decides_as ps) steps r
