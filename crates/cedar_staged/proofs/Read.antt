-- The headline of what is kept.
use Rattle.cedar_layers.specs.Stores.{store_view}
use Rattle.cedar_requests.specs.Requests.{request_view}
use Rattle.cedar_authorizer.specs.Configured.{resolution_of}
use Rattle.cedar_authorizer.specs.Headline.{steps_view}
use Rattle.cedar_staged.specs.declared.staged.Staged.{Staged}
use Rattle.cedar_staged.specs.Stages.{HasHeadline}
use Rattle.cedar_staged.proofs.Kept.{headline}

pub has_headline : {X : Type 0} {F : X → Type 0} {g : _} (s : Staged X F g) → HasHeadline s
has_headline s =
    headline s.authorizer (request_view s.request.value) (store_view s.entities.now) s.policies.now
    (steps_view (resolution_of s.authorizer) s.steps.items) s.response s.chain
