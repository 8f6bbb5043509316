-- What is sent over one connection, from the texts of policies and entities on.
use Rattle.std.specs.Prelude.{◌≡◌, ⊤, ℕ, Bool, Result, Ok, Err, Option, option_map, string_bytes}
use Rattle.cedar_model.specs.Terms.{Text}
use Rattle.http_server.specs.declared.state.Config.{Config}
use Rattle.http_server.specs.declared.state.State.{State}
use Rattle.http_server.specs.History.{History, IsServed, IsDone}
use Rattle.cedar_endpoints.specs.declared.service.Decisions.{Decisions}
use Rattle.cedar_service.specs.declared.loaded.Loaded.{Loaded}
use Rattle.cedar_service.specs.declared.engine.NotStarted.{NotStarted}
use Rattle.cedar_endpoints.specs.Lines.{Known, AreAllAnswered, AreSomeAnswered}
use Rattle.cedar_service.specs.Decided.{IsAuthorized}
use Rattle.cedar_service.specs.Loaded.{Texts, both_texts, engine_of, loaded_ways, IsLoadedOf}
use Rattle.cedar_service.specs.Ways.{Ways}
use Rattle.cedar_service.specs.Serving.{AreAnswered}
use Rattle.cedar_serve.specs.declared.serving.Stopped.{Stopped}
use Rattle.cedar_serve.specs.declared.serving.Stopped.TheVariants as stopped
use Rattle.cedar_serve.specs.Metadata.{metadata_text}

-- Each response is what this service owes to its request alone, and where that puts other policies or entities in place
-- of those which there are, the service goes on with them, if it decided as some texts say. What was received begins
-- with the requests, and what was sent is the responses, in their order, and no other byte but those that say why the
-- connection ends.
pub record IsServedBy (s : Decisions Loaded) (config : Config) (h : History) : Type 0 where
  pub last : Decisions Loaded
  pub answered : (ts : Texts) → IsLoadedOf ts s.decider → AreAnswered ts s h.calls last
  pub sent : ∥ IsServed config h ∥₁

-- The same of a service that decides as the policies and the entities do that these texts say, and tells where it is,
-- if that is given; whose pages have so many at most; which takes others in their place, or does not; and takes
-- requests so.
pub record IsServedFrom (policies entities : Text) (url : Option Text) (page : ℕ) (allows : Bool) (w : Ways)
    (config : Config) (h : History) : Type 0 where
  pub service : Decisions Loaded
  pub last : Decisions Loaded
  pub metadata : option_map string_bytes service.metadata ≡ option_map metadata_text url
  pub page_is : service.page ≡ page
  pub reload_is : service.allows_reload ≡ allows
  pub evaluations_are : service.max_evaluations ≡ w.bounds.evaluations
  pub answered : AreAnswered (both_texts policies entities w) service h.calls last
  pub sent : ∥ IsServed config h ∥₁

-- ---- how it ends

-- if it was served, this is so of its history; to the end, if the answer says so, and then the state is the history's
abbrev pub IfServed : (History → Type 0) → Result State Stopped → Type 0
IfServed Is (Ok s) = (h : History) × Is h × IsDone h × (s ≡ h.state)
IfServed Is (Err (stopped.NotStarted e)) = ⊤
IfServed Is (Err (stopped.Broken e)) = (h : History) × Is h

-- ---- lines

-- each line is answered as the policies and the entities decide that these texts say, and nothing else is written
pub record AreAnsweredFrom (policies entities : Text) (w : Ways) (reader writer last : Known) : Type 0 where
  pub loaded : Loaded
  pub is_of : IsLoadedOf (both_texts policies entities w) loaded
  pub all : AreAllAnswered (IsAuthorized (engine_of loaded) (loaded_ways loaded)) reader writer last

-- so it is with the lines up to some line, and of the answer to the next one at most a first part is written
pub record AreSomeAnsweredFrom (policies entities : Text) (w : Ways) (reader writer last : Known) : Type 0 where
  pub loaded : Loaded
  pub is_of : IsLoadedOf (both_texts policies entities w) loaded
  pub some : AreSomeAnswered (IsAuthorized (engine_of loaded) (loaded_ways loaded)) reader writer last

-- if it broke, this is so
abbrev pub IfBroken : {A : Type 0} → Type 0 → Result A Stopped → Type 0
IfBroken P (Ok a) = ⊤
IfBroken P (Err (stopped.NotStarted e)) = ⊤
IfBroken P (Err (stopped.Broken e)) = P

-- if nothing was started, this is so of the reason
abbrev pub IfUnstarted : {A : Type 0} → (NotStarted → Type 0) → Result A Stopped → Type 0
IfUnstarted Is (Ok a) = ⊤
IfUnstarted Is (Err (stopped.NotStarted e)) = Is e
IfUnstarted Is (Err (stopped.Broken e)) = ⊤
