-- Steps on different machines, each of which reads what the one before wrote.
use Rattle.std.specs.Prelude.{◌≡◌, List, [], ◌∷◌, map, Ok}
use Rattle.cedar_model.specs.Settings.{RequestPart, Store}
use Rattle.cedar_model.specs.Authorizations.{HaveNoLimit}
use Rattle.cedar_model.specs.Chains.{Mapping, ChainStep}
use Rattle.cedar_layers.specs.Policies.{PolicyView, decides_as}
use Rattle.cedar_requests.specs.Requests.{request_view}
use Rattle.cedar_authorizer.specs.declared.authorizer.Authorizer.{Authorizer}
use Rattle.cedar_authorizer.specs.declared.responses.partial_response.PartialResponse.{PartialResponse}
use Rattle.cedar_authorizer.specs.ByHand.{taken_with}
use Rattle.cedar_authorizer.specs.Configured.{configuration, asked_of, DifferInResolution}
use Rattle.cedar_authorizer.specs.Headline.{IsHeadline}
use Rattle.cedar_authorizer.specs.Running.{errors_of, request_of, IsRun}
use Rattle.cedar_authorizer.specs.Steps.{response_said, IsStep}
use Rattle.cedar_staged.specs.Wires.{SaysTheSame}

module _ {X : Type 0} {F : X → Type 0} {g : _} where
  -- a step on one machine: the response that it read, what decides there, the values and the store that it brings, and
  -- what it answered; this authorizer decided first
  pub record Leg (a : Authorizer X F g) : Type 0 where
    pub read : PartialResponse
    pub authorizer : Authorizer X F g
    pub step : Mapping × Store
    pub answer : PartialResponse

  -- the step as one of a chain
  abbrev pub taken_there : (a : Authorizer X F g) → Leg a → ChainStep
  taken_there a leg = taken_with (configuration leg.authorizer) leg.step

  -- from this response the machines lead to the last: each reads what says the same as what was answered before it, in
  -- which no recursion limit is recorded, and answers a step from what it read; all decide with the same extensions
  abbrev pub AreRelayed : (a : Authorizer X F g) → PartialResponse → List (Leg a) → PartialResponse → Type 0
  AreRelayed a r [] last = last ≡ r
  AreRelayed a r (leg ∷ legs) last =
      HaveNoLimit (errors_of r) × SaysTheSame r leg.read × DifferInResolution a leg.authorizer
      × IsStep (configuration leg.authorizer) leg.step (response_said leg.read) (Ok leg.answer)
      × AreRelayed a leg.answer legs last

  -- where the first machine answered a request, what the last one answers has the headline of all steps, as if one had
  -- taken them
  abbrev pub RelaysHaveTheHeadline : Authorizer X F g → Type 0
  RelaysHaveTheHeadline a =
      (request : RequestPart) (store : Store) (ps : List PolicyView) (first last : PartialResponse) (legs : List (Leg a))
      → request_view (request_of first) ≡ request
      → IsRun (configuration a) (asked_of (configuration a) request store) (map decides_as ps) first
      → AreRelayed a first legs last
      → IsHeadline (configuration a) (asked_of (configuration a) request store) (map decides_as ps)
      (map (taken_there a) legs) last
