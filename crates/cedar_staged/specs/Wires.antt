-- Responses that say the same, as one that was written and one that was read do, and chains that go on from either.
use Rattle.std.specs.Prelude.{◌≡◌, List, [], ◌∷◌, ◌++◌, Result, Ok}
use Rattle.cedar_model.specs.Settings.{RequestPart, Store}
use Rattle.cedar_model.specs.Policies.{Policy}
use Rattle.cedar_model.specs.Configurations.{Configuration}
use Rattle.cedar_model.specs.Refusals.{Refusal}
use Rattle.cedar_model.specs.Chains.{Mapping, ChainStep}
use Rattle.cedar_model.specs.Authorizations.{HaveNoLimit}
use Rattle.cedar_requests.specs.Requests.{request_view}
use Rattle.cedar_authorizer.specs.declared.responses.partial_response.PartialResponse.{PartialResponse}
use Rattle.cedar_authorizer.specs.responses.Rows.{mode_of, rows_view}
use Rattle.cedar_authorizer.specs.ByHand.{ChainGives, taken_with}
use Rattle.cedar_authorizer.specs.Running.{errors_of, request_of, HoldsRows}
use Rattle.cedar_authorizer.specs.Steps.{response_said, IsStep}

-- the second handles errors as the first does, is to the same request, and its maps hold the first's rows
pub record SaysTheSame (r read : PartialResponse) : Type 0 where
  pub mode_is : mode_of read ≡ mode_of r
  pub request_is : request_view (request_of read) ≡ request_view (request_of r)
  pub held : HoldsRows (rows_view r) read

-- where a chain gives the first without the recursion limit, a step from the second answers what the chain with that step
-- gives
abbrev pub TakesItsChainsFurther : Configuration → Configuration → PartialResponse → PartialResponse → Type 0
TakesItsChainsFurther c next r read =
    (request : RequestPart) (store : Store) (ps : List Policy) (steps : List ChainStep) (step : Mapping × Store)
    (x : Result PartialResponse Refusal) → SaysTheSame r read → ChainGives c request store ps steps (Ok r)
    → HaveNoLimit (errors_of r) → IsStep next step (response_said read) x
    → ChainGives c request store ps (steps ++ taken_with next step ∷ []) x
