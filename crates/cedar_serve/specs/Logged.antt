-- What is sent over one connection with a log.
use Rattle.std.specs.Prelude.{◌≡◌, ℕ, Bool, List, [], ◌++◌, Option, Result, Ok, Err, IsErrAnd, option_map, string_bytes}
use Rattle.std.specs.IoError.{error_kind}
use Rattle.std.specs.declared.io.ErrorKind.TheVariants.{OutOfMemory}
use Rattle.std.specs.declared.io.Error.{Error}
use Rattle.std.specs.Io.KnownBytes.{Appends}
use Rattle.cedar_model.specs.Terms.{Text}
use Rattle.http_server.specs.declared.state.Config.{Config}
use Rattle.http_server.specs.declared.state.State.{State}
use Rattle.http_server.specs.Exchange.{Call}
use Rattle.http_server.specs.History.{History, IsServed}
use Rattle.cedar_endpoints.specs.declared.service.Decisions.{Decisions}
use Rattle.cedar_log.specs.Logs.{Known, AreHandedOut}
use Rattle.cedar_logged_lines.specs.Lines.{AreAllLogged, AreSomeLogged}
use Rattle.cedar_service.specs.Decided.{IsAuthorized}
use Rattle.cedar_service.specs.declared.loaded.Loaded.{Loaded}
use Rattle.cedar_service.specs.Loaded.{Texts, both_texts, engine_of, loaded_ways, IsLoadedOf}
use Rattle.cedar_service.specs.Ways.{Ways}
use Rattle.cedar_service.specs.Serving.{loaded_version, AreAnswered}
use Rattle.cedar_serve.specs.declared.serving.Stopped.{Stopped}
use Rattle.cedar_serve.specs.declared.serving.Stopped.TheVariants as stopped
use Rattle.cedar_serve.specs.Metadata.{metadata_text}

-- it ended since memory ran out
abbrev pub IsOutOfMemory : Result State Stopped → Type 0
IsOutOfMemory (Ok s) = ⊥
IsOutOfMemory (Err (stopped.NotStarted e)) = ⊥
IsOutOfMemory (Err (stopped.Broken e)) = error_kind e ≡ OutOfMemory

-- To each call there is a response that is due, and that is sent once it is told, or else 500. The lines of those which
-- were sent are appended to the log, and after them nothing, or, where the lines of one that was withheld could not be
-- appended whole, at most a first part of those. Where memory ran out before lines were made, `NoMemory` holds.
pub record AreSent (NoMemory : Type 0) (due sent : List Call) (before after : Known) : Type 0 where
  pub lines : Text
  pub some : Text
  pub handed_out : AreHandedOut NoMemory due sent lines some
  pub appended : Appends before after (lines ++ some)

-- What is due is what this service owes to each request alone, and where that puts other policies or entities in place of
-- those which there are, the service goes on with them, if it decided as some texts say. What was received begins with
-- the requests, and what was sent is the responses, in their order, and no other byte but those that say why the
-- connection ends.
pub record IsLoggedBy (s : Decisions Loaded) (config : Config) (NoMemory : Type 0) (before after : Known) (h : History)
    : Type 0 where
  pub due : List Call
  pub last : Decisions Loaded
  pub answered : (ts : Texts) → IsLoadedOf ts s.decider → AreAnswered ts s due last
  pub told : AreSent NoMemory due h.calls before after
  pub sent : ∥ IsServed config h ∥₁

-- The same of a service that decides as the policies and the entities do that these texts say, and tells where it is,
-- if that is given; whose pages have so many at most; which takes others in their place, or does not; and takes
-- requests so.
pub record IsLoggedFrom (policies entities : Text) (url : Option Text) (page : ℕ) (allows : Bool) (w : Ways)
    (config : Config) (NoMemory : Type 0) (before after : Known) (h : History) : Type 0 where
  pub service : Decisions Loaded
  pub due : List Call
  pub last : Decisions Loaded
  pub metadata : option_map string_bytes service.metadata ≡ option_map metadata_text url
  pub page_is : service.page ≡ page
  pub reload_is : service.allows_reload ≡ allows
  pub evaluations_are : service.max_evaluations ≡ w.bounds.evaluations
  pub answered : AreAnswered (both_texts policies entities w) service due last
  pub told : AreSent NoMemory due h.calls before after
  pub sent : ∥ IsServed config h ∥₁

-- ---- lines

-- each line is answered as the policies and the entities decide that these texts say, and told to the log before that;
-- nothing else is written
pub record AreLoggedFrom (policies entities : Text) (w : Ways) (reader writer last log log_last : Known)
    : Type 0 where
  pub loaded : Loaded
  pub is_of : IsLoadedOf (both_texts policies entities w) loaded
  pub all : AreAllLogged (IsAuthorized (engine_of loaded) (loaded_ways loaded)) (loaded_version loaded) reader writer last log log_last

-- so it is with the lines up to some line, and of the next one a part at most is told and answered
pub record AreSomeLoggedFrom (policies entities : Text) (w : Ways) (reader writer last log log_last : Known)
    : Type 0 where
  pub loaded : Loaded
  pub is_of : IsLoadedOf (both_texts policies entities w) loaded
  pub some : AreSomeLogged (IsAuthorized (engine_of loaded) (loaded_ways loaded)) (loaded_version loaded) reader writer last log log_last

-- ---- for private clauses

-- the error is that memory ran out
abbrev pub IsOfMemory : {A : Type 0} → Result A Error → Type 0
IsOfMemory r = IsErrAnd r (λ e. error_kind e ≡ OutOfMemory)
