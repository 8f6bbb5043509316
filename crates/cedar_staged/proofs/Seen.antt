-- The last response, as it was seen before a step: what held of that one holds of it.
use Rattle.std.specs.Prelude.{◌≡◌, Bool, false, List, Result, Err, IfSome}
use Rattle.std.proofs.Common.{sym, ◌∙◌, subst}
use Rattle.cedar_model.specs.Refusals.{Refusal}
use Rattle.cedar_model.specs.Configurations.{Configuration}
use Rattle.cedar_model.specs.Settings.{Store}
use Rattle.cedar_model.specs.Chains.{Mapping, has_limit}
use Rattle.cedar_layers.specs.declared.policies.entities.Entities.{Entities}
use Rattle.cedar_authorizer.specs.declared.reauthorization.err.ReauthorizationError.{ReauthorizationError}
use Rattle.cedar_authorizer.specs.declared.responses.err.AuthorizationError.{AuthorizationError}
use Rattle.cedar_authorizer.specs.declared.responses.partial_response.PartialResponse.{PartialResponse}
use Rattle.cedar_authorizer.specs.responses.Responses.{errors_view}
use Rattle.cedar_authorizer.specs.Running.{errors_of}
use Rattle.cedar_authorizer.specs.Steps.{ValuesByName, step_by, step_answer, response_said, IsStep}
use Rattle.cedar_staged.specs.declared.errors.StageError.{StageError}
use Rattle.cedar_staged.specs.Refusals.{IsRefusal}
use Rattle.cedar_staged.specs.Stages.{IsWhyNoStep}
use Rattle.cedar_staged.proofs.Refused.{why_not}

-- in what was seen of it, no recursion limit is recorded
pub none_seen : (found : Bool) (seen : List AuthorizationError) (r last : PartialResponse) → found ≡ false → found ≡ has_limit (errors_view seen)
    → seen ≡ r.errors.items → r ≡ last → has_limit (errors_of last) ≡ false
none_seen found seen r last none told same is =
    subst (λ (x : PartialResponse). has_limit (errors_of x) ≡ false) is
    (subst (λ (es : List AuthorizationError). has_limit (errors_view es) ≡ false) same (sym told ∙ none))

-- a step from what was seen of it
pub step_seen : (c : Configuration) (step : Mapping × Store) (x : Result PartialResponse Refusal) (r last : PartialResponse) → r ≡ last
    → IsStep c step (response_said r) x → IsStep c step (response_said last) x
step_seen c step x r last is h = subst (λ (y : PartialResponse). IsStep c step (response_said y) x) is h

-- why no step from what was seen of it was taken
pub why_not_seen : (c : Configuration) (values : ValuesByName) (entities : Entities) (e : ReauthorizationError) (x : StageError) (r last : PartialResponse)
    → r ≡ last → has_limit (errors_of last) ≡ false → IfSome (step_answer (Err e)) (IsStep c (step_by values entities) (response_said r))
    → IsRefusal e x → IsWhyNoStep c last values entities x
why_not_seen c values entities e x r last is none h refused =
    why_not c last values entities e x none
    (subst (λ (y : PartialResponse). IfSome (step_answer (Err e)) (IsStep c (step_by values entities) (response_said y))) is h) refused
