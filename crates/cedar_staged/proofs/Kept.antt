-- The chain that the type keeps: where it begins, one step more, and its headline.
use Rattle.std.specs.Prelude.{◌≡◌, false, List, [], ◌∷◌, ◌++◌, Ok}
use Rattle.std.proofs.Common.{refl, sym, ap, ◌∙◌, subst}
use Rattle.std.proofs.lemmas.List.{map-append}
use Rattle.std.specs.Borrow.{Bor}
use mathlib.Core.Logic.{∥∥₁_map}
use Rattle.cedar_model.specs.Settings.{RequestPart, Store, Resolution}
use Rattle.cedar_model.specs.Policies.{Policy}
use Rattle.cedar_model.specs.Chains.{Mapping, ChainStep, has_limit}
use Rattle.cedar_model.proofs.Limits.{none_has}
use Rattle.cedar_layers.specs.declared.policies.entities.Entities.{Entities}
use Rattle.cedar_layers.specs.declared.policies.policy_set.PolicySet.{PolicySet}
use Rattle.cedar_layers.specs.PolicySets.{policies_view}
use Rattle.cedar_layers.specs.Stores.{store_view}
use Rattle.cedar_requests.specs.declared.request.Request.{Request}
use Rattle.cedar_requests.specs.Requests.{request_view}
use Rattle.cedar_authorizer.specs.declared.authorizer.Authorizer.{Authorizer}
use Rattle.cedar_authorizer.specs.declared.responses.partial_response.PartialResponse.{PartialResponse}
use Rattle.cedar_authorizer.specs.ByHand.{ChainGives, taken_with}
use Rattle.cedar_authorizer.specs.Configured.{configuration, asked, asked_of}
use Rattle.cedar_authorizer.specs.Headline.{step_view, steps_view, IsHeadline}
use Rattle.cedar_authorizer.specs.Responding.{considered}
use Rattle.cedar_authorizer.specs.Running.{errors_of, request_of, IsRun}
use Rattle.cedar_authorizer.specs.Steps.{ValuesByName, response_said, IsStep}
use Rattle.cedar_authorizer.proofs.Further.{begins, goes_on, ends}

module _ {X : Type 0} {F : X → Type 0} {g : _} (a : Authorizer X F g) where
  pub begun : (request : Request) (entities : Entities) (policies : PolicySet) (r : PartialResponse) → request_of r ≡ request
      → IsRun (configuration a) (asked a request entities) (considered policies) r
      → ChainGives (configuration a) (request_view (request_of r)) (store_view entities) (considered policies) [] (Ok r)
  begun request entities policies r e run =
      begins a r (request_view (request_of r)) (store_view entities) (considered policies) refl
      (subst (λ (q : Request). IsRun (configuration a) (asked a q entities) (considered policies) r) (sym e) run)

  pub gone_on : (request : RequestPart) (store : Store) (ps : List Policy) (steps : List ChainStep) (step : Mapping × Store) (r n : PartialResponse)
      → ∥ ChainGives (configuration a) request store ps steps (Ok r) ∥₁ → has_limit (errors_of r) ≡ false
      → IsStep (configuration a) step (response_said r) (Ok n)
      → ∥ ChainGives (configuration a) request store ps (steps ++ taken_with (configuration a) step ∷ []) (Ok n) ∥₁
  gone_on request store ps steps step r n kept none h =
      ∥∥₁_map kept (λ gives. goes_on a a r (refl, refl, refl) request store ps steps step (Ok n) gives (none_has (errors_of r) none) h)

  pub headline : (request : RequestPart) (store : Store) (policies : PolicySet) (steps : List ChainStep) (r : PartialResponse)
      → ∥ ChainGives (configuration a) request store (considered policies) steps (Ok r) ∥₁
      → ∥ IsHeadline (configuration a) (asked_of (configuration a) request store) (considered policies) steps r ∥₁
  headline request store policies steps r kept = ∥∥₁_map kept (ends a r request store (policies_view policies) steps)

-- one step more
pub steps_more : (q : Resolution) (before after : List (Bor ValuesByName × Bor Entities)) (step : Bor ValuesByName × Bor Entities)
    → after ≡ before ++ step ∷ [] → steps_view q after ≡ steps_view q before ++ step_view q step ∷ []
steps_more q before after step e = ap (steps_view q) e ∙ map-append (step_view q) before (step ∷ [])
