-- A decision in stages: what it was begun with, its steps, and what is known by now.
use Rattle.std.specs.Prelude.{◌≡◌, true, false, List, [], ◌∷◌, ◌++◌, Ok, Err, IfSome}
use Rattle.cedar_model.specs.Settings.{RequestPart, Store}
use Rattle.cedar_model.specs.Policies.{Policy}
use Rattle.cedar_model.specs.Chains.{ChainStep, has_limit}
use Rattle.cedar_model.specs.Configurations.{Configuration}
use Rattle.cedar_layers.specs.declared.policies.entities.Entities.{Entities}
use Rattle.cedar_layers.specs.declared.policies.policy_set.PolicySet.{PolicySet}
use Rattle.cedar_layers.specs.Stores.{store_view}
use Rattle.cedar_requests.specs.declared.request.Request.{Request}
use Rattle.cedar_requests.specs.Requests.{request_view}
use Rattle.cedar_authorizer.specs.declared.authorizer.Authorizer.{Authorizer}
use Rattle.cedar_authorizer.specs.declared.responses.partial_response.PartialResponse.{PartialResponse}
use Rattle.cedar_authorizer.specs.responses.Rows.{rows_view}
use Rattle.cedar_authorizer.specs.ByHand.{taken_with}
use Rattle.cedar_authorizer.specs.Configured.{configuration, resolution_of, asked_of}
use Rattle.cedar_authorizer.specs.Headline.{steps_view, IsHeadline}
use Rattle.cedar_authorizer.specs.Responding.{considered}
use Rattle.cedar_authorizer.specs.Running.{errors_of, request_of}
use Rattle.cedar_authorizer.specs.Steps.{ValuesByName, step_by, step_answer, response_said, IsStep}
use Rattle.cedar_unknowns.specs.Occurrences.{Asked, request_occurrences, row_occurrences}
use Rattle.cedar_staged.specs.declared.staged.Staged.{Staged}
use Rattle.cedar_staged.specs.declared.errors.StageError.{StageError}
use Rattle.cedar_staged.specs.declared.errors.StageError.TheVariants as stages

-- why no step from a response, with these values over this store, is taken
abbrev pub IsWhyNoStep : Configuration → PartialResponse → ValuesByName → Entities → StageError → Type 0
IsWhyNoStep c r values entities stages.LimitIsRecorded = has_limit (errors_of r) ≡ true
IsWhyNoStep c r values entities (stages.Refused e) =
    (has_limit (errors_of r) ≡ false)
    × IfSome (step_answer (Err e)) (IsStep c (step_by values entities) (response_said r))
IsWhyNoStep c r values entities (stages.Memory e) = Unit {0}

module _ {X : Type 0} {F : X → Type 0} {g : _} where
  -- what decides
  abbrev pub authorizer_of : Staged X F g → Authorizer X F g
  authorizer_of s = s.authorizer

  -- the response of the last stage
  abbrev pub response_of : Staged X F g → PartialResponse
  response_of s = s.response

  -- what was asked first, by which policies, over which store
  abbrev pub first_request : Staged X F g → RequestPart
  first_request s = request_view s.request.value

  abbrev pub first_policies : Staged X F g → List Policy
  first_policies s = considered s.policies.now

  abbrev pub first_store : Staged X F g → Store
  first_store s = store_view s.entities.now

  -- the steps since
  abbrev pub steps_of : Staged X F g → List ChainStep
  steps_of s = steps_view (resolution_of s.authorizer) s.steps.items

  -- the unknowns that are left, each as often as it stands
  abbrev pub unknowns_of : Staged X F g → List Asked
  unknowns_of s =
      request_occurrences (request_view (request_of (response_of s))) ++ row_occurrences (rows_view (response_of s))

  -- the headline, of the chain from what was asked first by all steps since
  abbrev pub HasHeadline : Staged X F g → Type 0
  HasHeadline s =
      ∥ IsHeadline (configuration (authorizer_of s))
      (asked_of (configuration (authorizer_of s)) (first_request s) (first_store s)) (first_policies s) (steps_of s)
      (response_of s) ∥₁

  -- it was begun so, and no step was taken yet
  pub record IsBegunWith (a : Authorizer X F g) (request : Request) (policies : PolicySet) (entities : Entities)
      (s : Staged X F g) : Type 0 where
    pub authorizer_is : authorizer_of s ≡ a
    pub request_is : first_request s ≡ request_view request
    pub policies_are : first_policies s ≡ considered policies
    pub store_is : first_store s ≡ store_view entities
    pub steps_are : steps_of s ≡ []

  -- one step more, with these values over this store, from a response without the recursion limit
  pub record GoesOn (old : Staged X F g) (values : ValuesByName) (entities : Entities) (new : Staged X F g) : Type 0 where
    pub authorizer_is : authorizer_of new ≡ authorizer_of old
    pub request_is : first_request new ≡ first_request old
    pub policies_are : first_policies new ≡ first_policies old
    pub store_is : first_store new ≡ first_store old
    pub steps_are : steps_of new
        ≡ steps_of old ++ taken_with (configuration (authorizer_of old)) (step_by values entities) ∷ []
    pub limit_is_not_recorded : has_limit (errors_of (response_of old)) ≡ false
    pub step : IsStep (configuration (authorizer_of old)) (step_by values entities)
        (response_said (response_of old)) (Ok (response_of new))

  -- all that is said of it stands as before
  abbrev pub StaysAs : Staged X F g → Staged X F g → Type 0
  StaysAs old new =
      (authorizer_of new ≡ authorizer_of old) × (response_of new ≡ response_of old)
      × (first_request new ≡ first_request old) × (first_policies new ≡ first_policies old)
      × (first_store new ≡ first_store old) × (steps_of new ≡ steps_of old)

  -- why no step with these values over this store is taken
  abbrev pub IsWhyNot : Staged X F g → ValuesByName → Entities → StageError → Type 0
  IsWhyNot s values entities e = IsWhyNoStep (configuration (authorizer_of s)) (response_of s) values entities e
