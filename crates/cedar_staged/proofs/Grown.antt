-- The chain that the type keeps, when its list of steps grows, and when it stays.
use Rattle.std.specs.Prelude.{◌≡◌, false, List, [], ◌∷◌, ◌++◌, Ok}
use Rattle.std.proofs.Common.{sym, subst}
use Rattle.std.specs.Borrow.{Bor}
use Rattle.cedar_model.specs.Settings.{RequestPart, Store}
use Rattle.cedar_model.specs.Policies.{Policy}
use Rattle.cedar_model.specs.Chains.{ChainStep, has_limit}
use Rattle.cedar_layers.specs.declared.policies.entities.Entities.{Entities}
use Rattle.cedar_authorizer.specs.declared.authorizer.Authorizer.{Authorizer}
use Rattle.cedar_authorizer.specs.declared.responses.partial_response.PartialResponse.{PartialResponse}
use Rattle.cedar_authorizer.specs.ByHand.{ChainGives}
use Rattle.cedar_authorizer.specs.Configured.{configuration, resolution_of}
use Rattle.cedar_authorizer.specs.Headline.{steps_view}
use Rattle.cedar_authorizer.specs.Running.{errors_of}
use Rattle.cedar_authorizer.specs.Steps.{ValuesByName, step_by, response_said, IsStep}
use Rattle.cedar_staged.proofs.Kept.{gone_on, steps_more}

module _ {X : Type 0} {F : X → Type 0} {g : _} (a : Authorizer X F g) (request : RequestPart) (store : Store) (ps : List Policy)
    (before after : List (Bor ValuesByName × Bor Entities)) where
  pub grown : (values : Bor ValuesByName) (entities : Bor Entities) (r n : PartialResponse)
      → after ≡ before ++ (values, entities) ∷ []
      → ∥ ChainGives (configuration a) request store ps (steps_view (resolution_of a) before) (Ok r) ∥₁
      → has_limit (errors_of r) ≡ false
      → IsStep (configuration a) (step_by values.now entities.now) (response_said r) (Ok n)
      → ∥ ChainGives (configuration a) request store ps (steps_view (resolution_of a) after) (Ok n) ∥₁
  grown values entities r n e kept none h =
      subst (λ (ss : List ChainStep). ∥ ChainGives (configuration a) request store ps ss (Ok n) ∥₁)
      (sym (steps_more (resolution_of a) before after (values, entities) e))
      (gone_on a request store ps (steps_view (resolution_of a) before) (step_by values.now entities.now) r n kept none h)

  pub stays : (r : PartialResponse) → after ≡ before
      → ∥ ChainGives (configuration a) request store ps (steps_view (resolution_of a) before) (Ok r) ∥₁
      → ∥ ChainGives (configuration a) request store ps (steps_view (resolution_of a) after) (Ok r) ∥₁
  stays r e kept =
      subst (λ (ss : List (Bor ValuesByName × Bor Entities)). ∥ ChainGives (configuration a) request store ps (steps_view (resolution_of a) ss) (Ok r) ∥₁)
      (sym e) kept
