-- What the type keeps when it is begun, and what stands of its first response.
use Rattle.std.specs.Prelude.{◌≡◌, List, [], Result, Ok, Err, IfOk}
use Rattle.std.proofs.Common.{sym, subst}
use Rattle.std.specs.Borrow.{Bor}
use Rattle.cedar_model.specs.Settings.{Store, Resolution}
use Rattle.cedar_model.specs.Policies.{Policy}
use Rattle.cedar_model.specs.Configurations.{Configuration}
use Rattle.cedar_layers.specs.declared.policies.entities.Entities.{Entities}
use Rattle.cedar_requests.specs.declared.request.Request.{Request}
use Rattle.cedar_requests.specs.Requests.{request_view}
use Rattle.cedar_authorizer.specs.declared.responses.partial_response.PartialResponse.{PartialResponse}
use Rattle.cedar_authorizer.specs.ByHand.{ChainGives}
use Rattle.cedar_authorizer.specs.Headline.{steps_view}
use Rattle.cedar_authorizer.specs.Steps.{ValuesByName}

-- no step yet, and a copy of the request
pub kept_first : (c : Configuration) (store : Store) (ps : List Policy) (q : Resolution) (r : PartialResponse)
    (request copy : Request) (steps : List (Bor ValuesByName × Bor Entities))
    → copy ≡ request → steps ≡ [] → ChainGives c (request_view request) store ps [] (Ok r)
    → ∥ ChainGives c (request_view copy) store ps (steps_view q steps) (Ok r) ∥₁
kept_first c store ps q r request copy steps same none gives =
    let at_copy : ChainGives c (request_view copy) store ps [] (Ok r) = subst (λ (x : Request). ChainGives c (request_view x) store ps [] (Ok r)) (sym same) gives in
    ∣ subst (λ (ss : List (Bor ValuesByName × Bor Entities)). ChainGives c (request_view copy) store ps (steps_view q ss) (Ok r)) (sym none) at_copy ∣₁

-- what holds of a response holds of the one that is kept
pub holds_of : {A E : Type 0} (P : PartialResponse → Type 0) (see : A → PartialResponse) (x : Result A E) (r : PartialResponse)
    → IfOk x (λ s. see s ≡ r) → P r → IfOk x (λ s. P (see s))
holds_of P see (Ok s) r same holds = subst P (sym same) holds
holds_of P see (Err e) r same holds = tt
