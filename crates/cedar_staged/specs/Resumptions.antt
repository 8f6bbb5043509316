-- A decision that is taken further from a response: its first, its steps, and what is known by now.
use Rattle.std.specs.Prelude.{◌≡◌, false, List, [], ◌∷◌, ◌++◌, map, Ok}
use Rattle.cedar_model.specs.World.{World, Functions}
use Rattle.cedar_model.specs.Agreement.{AgreesWithFunctions, AgreesWithRequest, FitsContext, IsFaithfulContext}
use Rattle.cedar_model.specs.Agreement.{AnswerFaithfully}
use Rattle.cedar_model.specs.Authorizations.{HaveNoLimit}
use Rattle.cedar_model.specs.Chains.{ChainStep, has_limit}
use Rattle.cedar_model.specs.Configurations.{Configuration}
use Rattle.cedar_model.specs.Headline.{CompletesSteps}
use Rattle.cedar_model.specs.Responses.{Stand}
use Rattle.cedar_layers.specs.Policies.{PolicyView, decides_as}
use Rattle.cedar_layers.specs.declared.policies.entities.Entities.{Entities}
use Rattle.cedar_requests.specs.Requests.{request_view}
use Rattle.cedar_authorizer.specs.declared.authorizer.Authorizer.{Authorizer}
use Rattle.cedar_authorizer.specs.declared.responses.partial_response.PartialResponse.{PartialResponse}
use Rattle.cedar_authorizer.specs.responses.Rows.{rows_view}
use Rattle.cedar_authorizer.specs.ByHand.{taken_with}
use Rattle.cedar_authorizer.specs.Configured.{configuration, resolution_of}
use Rattle.cedar_authorizer.specs.Headline.{steps_view}
use Rattle.cedar_authorizer.specs.Running.{errors_of, request_of}
use Rattle.cedar_authorizer.specs.Steps.{ValuesByName, step_by, response_said, IsStep}
use Rattle.cedar_unknowns.specs.Occurrences.{Asked, request_occurrences, row_occurrences}
use Rattle.cedar_staged.specs.declared.resumed.Resumed.{Resumed}
use Rattle.cedar_staged.specs.declared.errors.StageError.{StageError}
use Rattle.cedar_staged.specs.Stages.{IsWhyNoStep}

-- functions and a world complete the request of a first response, and the steps that are taken from it
pub record CompletesAll (c : Configuration) (first : PartialResponse) (steps : List ChainStep) (ans : Functions)
    (w : World) : Type 0 where
  pub request_agrees : AgreesWithRequest c.extensions ans w (request_view (request_of first))
  pub context_fits : FitsContext c.extensions ans w (request_view (request_of first)).context_part
  pub context_is_faithful : IsFaithfulContext c.extensions ans (request_view (request_of first)).context_part
  pub steps_agree : CompletesSteps c.extensions ans w steps
  pub functions_are_functional : AgreesWithFunctions ans c.calls
  pub functions_are_faithful : AnswerFaithfully c.extensions ans c.calls

-- in every completion, what stood of the first response stands of the last, if its errors hold no recursion limit
abbrev pub StandsAsTheFirst : Configuration → PartialResponse → List ChainStep → PartialResponse → Type 0
StandsAsTheFirst c first steps last =
    (ans : Functions) (w : World) → CompletesAll c first steps ans w → (ps : List PolicyView)
    → Stand c.mode c.extensions ans w (map decides_as ps) (rows_view first) → HaveNoLimit (errors_of last)
    → Stand c.mode c.extensions ans w (map decides_as ps) (rows_view last)

module _ {X : Type 0} {F : X → Type 0} {g : _} where
  -- what decides
  abbrev pub authorizer_of : Resumed X F g → Authorizer X F g
  authorizer_of s = s.authorizer

  -- the response that it is taken further from
  abbrev pub first_of : Resumed X F g → PartialResponse
  first_of s = s.first.value

  -- the response of the last stage
  abbrev pub response_of : Resumed X F g → PartialResponse
  response_of s = s.response.value

  -- the steps since
  abbrev pub steps_of : Resumed X F g → List ChainStep
  steps_of s = steps_view (resolution_of s.authorizer) s.steps.items

  -- the unknowns that are left, each as often as it stands
  abbrev pub unknowns_of : Resumed X F g → List Asked
  unknowns_of s =
      request_occurrences (request_view (request_of (response_of s))) ++ row_occurrences (rows_view (response_of s))

  -- what stood of the first response stands
  abbrev pub KeepsWhatStood : Resumed X F g → Type 0
  KeepsWhatStood s =
      ∥ StandsAsTheFirst (configuration (authorizer_of s)) (first_of s) (steps_of s) (response_of s) ∥₁

  -- it is taken further from this response, and no step was taken yet
  pub record IsResumedFrom (a : Authorizer X F g) (r : PartialResponse) (s : Resumed X F g) : Type 0 where
    pub authorizer_is : authorizer_of s ≡ a
    pub first_is : first_of s ≡ r
    pub response_is : response_of s ≡ r
    pub steps_are : steps_of s ≡ []

  -- one step more, with these values over this store, from a response without the recursion limit
  pub record GoesOn (old : Resumed X F g) (values : ValuesByName) (entities : Entities) (new : Resumed X F g)
      : Type 0 where
    pub authorizer_is : authorizer_of new ≡ authorizer_of old
    pub first_is : first_of new ≡ first_of old
    pub steps_are : steps_of new
        ≡ steps_of old ++ taken_with (configuration (authorizer_of old)) (step_by values entities) ∷ []
    pub limit_is_not_recorded : has_limit (errors_of (response_of old)) ≡ false
    pub step : IsStep (configuration (authorizer_of old)) (step_by values entities)
        (response_said (response_of old)) (Ok (response_of new))

  -- all that is said of it stands as before
  abbrev pub StaysAs : Resumed X F g → Resumed X F g → Type 0
  StaysAs old new =
      (authorizer_of new ≡ authorizer_of old) × (first_of new ≡ first_of old)
      × (response_of new ≡ response_of old) × (steps_of new ≡ steps_of old)

  -- why no step with these values over this store is taken
  abbrev pub IsWhyNot : Resumed X F g → ValuesByName → Entities → StageError → Type 0
  IsWhyNot s values entities e = IsWhyNoStep (configuration (authorizer_of s)) (response_of s) values entities e
