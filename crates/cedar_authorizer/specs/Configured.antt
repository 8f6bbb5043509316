-- What an authorizer is configured with, and what it is asked.
use Rattle.std.specs.Prelude.{◌≡◌, ℕ, ◌≤◌}
use Rattle.cedar_model.specs.Settings.{RequestPart, Store, Resolution, Setting}
use Rattle.cedar_model.specs.Policies.{ErrorHandling}
use Rattle.cedar_model.specs.Configurations.{Configuration, configured}
use Rattle.cedar_model.specs.Chains.{at_step, no_values}
use Rattle.cedar_decisions.specs.Decisions.{mode_view}
use Rattle.cedar_interpreter.specs.Settings.{resolution_view}
use Rattle.cedar_extensions.specs.declared.extensions.Extensions.{Extensions}
use Rattle.cedar_extensions.specs.Extensions.{extensions_view, calls_of}
use Rattle.cedar_layers.specs.declared.policies.entities.Entities.{Entities}
use Rattle.cedar_layers.specs.Stores.{store_view}
use Rattle.cedar_requests.specs.declared.request.Request.{Request}
use Rattle.cedar_requests.specs.Requests.{request_view}
use Rattle.cedar_authorizer.specs.declared.authorizer.Authorizer.{Authorizer}

-- the extensions that it uses
abbrev pub extensions_of : {X : Type 0} {F : X → Type 0} {g : _} → Authorizer X F g → Extensions X F g
extensions_of a = a.extensions

-- how many levels deep it evaluates
abbrev pub limit_of : {X : Type 0} {F : X → Type 0} {g : _} → Authorizer X F g → ℕ
limit_of a = a.limit

-- how it handles errors
abbrev pub mode_of : {X : Type 0} {F : X → Type 0} {g : _} → Authorizer X F g → ErrorHandling
mode_of a = mode_view a.error_handling

-- what reading a stored residual answers
abbrev pub resolution_of : {X : Type 0} {F : X → Type 0} {g : _} → Authorizer X F g → Resolution
resolution_of a = resolution_view a.resolution

-- what it is configured with
abbrev pub configuration : {X : Type 0} {F : X → Type 0} {g : _} → Authorizer X F g → Configuration
configuration a =
    configured (calls_of (extensions_of a)) (mode_of a) (resolution_of a) (extensions_view (extensions_of a))
    (limit_of a)

-- what it is asked: a request over a store, where no unknown has a value
abbrev pub asked : {X : Type 0} {F : X → Type 0} {g : _} → Authorizer X F g → Request → Entities → Setting
asked a request entities =
    at_step (extensions_view (extensions_of a)) (resolution_of a) (request_view request) (store_view entities)
    no_values

-- what a call is given that is asked so by an authorizer that is configured so
abbrev pub asked_of : Configuration → RequestPart → Store → Setting
asked_of c request store = at_step c.extensions c.resolution request store no_values

-- authorizers that differ in their resolution alone
abbrev pub DifferInResolution : {X : Type 0} {F : X → Type 0} {g : _} → Authorizer X F g → Authorizer X F g → Type 0
DifferInResolution a b =
    (extensions_of b ≡ extensions_of a) × (mode_of b ≡ mode_of a) × (limit_of b ≡ limit_of a)

-- authorizers that differ in their limits alone, of which the second's is no lower
abbrev pub DifferInLimit : {X : Type 0} {F : X → Type 0} {g : _} → Authorizer X F g → Authorizer X F g → Type 0
DifferInLimit a b =
    (extensions_of b ≡ extensions_of a) × (mode_of b ≡ mode_of a) × (resolution_of b ≡ resolution_of a)
    × (limit_of a ≤ limit_of b)
