-- What becomes of the requests of a connection.
use Rattle.std.specs.Prelude.{◌≡◌, List, ℕ, [], ◌∷◌, Some, option_map, string_bytes}
use Rattle.http.specs.Request.{body_of}
use Rattle.http_server.specs.Exchange.{Call}
use Rattle.cedar_endpoints.specs.Answered.{IsTakenSent}
use Rattle.cedar_endpoints.specs.Found.{finder_of}
use Rattle.cedar_endpoints.specs.Reloads.{replaced_by}
use Rattle.cedar_endpoints.specs.Served.{Offers, offered, reloads_of, asked_route, IsServed}
use Rattle.cedar_endpoints.specs.declared.routes.Replaced.{Replaced}
use Rattle.cedar_endpoints.specs.declared.service.Decisions.{Decisions}
use Rattle.cedar_service.specs.declared.loaded.Loaded.{Loaded}
use Rattle.cedar_service.specs.Decided.{IsDecided, IsAuthorized}
use Rattle.cedar_service.specs.Engines.{version_of, candidate_count}
use Rattle.cedar_service.specs.Left.{IsLeft}
use Rattle.cedar_service.specs.Loaded.{Texts, engine_of, loaded_ways, IsLoadedOf, Refuses, replaced_with}
use Rattle.cedar_service.specs.Searched.{IsFound}

-- the version of what is decided
abbrev pub loaded_version : Loaded → List ℕ
loaded_version l = version_of (engine_of l)

-- what the engine decides, leaves and finds, whether it can be replaced, and where it is told
abbrev pub offers_of : Decisions Loaded → Offers
offers_of s =
    offered (IsDecided (engine_of s.decider) (loaded_ways s.decider)) (IsAuthorized (engine_of s.decider) (loaded_ways s.decider))
    (IsLeft (engine_of s.decider) (loaded_ways s.decider))
    (finder_of (IsFound (engine_of s.decider) (loaded_ways s.decider)) (loaded_version s.decider)
    (candidate_count (engine_of s.decider)) s.page)
    (reloads_of s.allows_reload (Refuses s.decider)) (option_map string_bytes s.metadata)
    s.max_evaluations

-- ---- one request

-- Of a service that decides as these texts say: the response is what it owes to the request, and it stays as it is; or
-- the request asks that its body be taken in place of one of the texts, which it may, and it then decides as the texts
-- say with that one, and tells its version from then on.
pub data IsNext (ts : Texts) (s : Decisions Loaded) (c : Call) : Texts → Decisions Loaded → Type 0 where
  kept : IsServed (offers_of s) c.0 c.1 → IsNext ts s c ts s
  taken : (part : Replaced) (made : Loaded) → replaced_by s.allows_reload (asked_route c.0) ≡ Some part
      → IsLoadedOf (replaced_with part (body_of c.0) ts) made → IsTakenSent (loaded_version made) c.0 c.1
      → IsNext ts s c (replaced_with part (body_of c.0) ts) (record s { decider = made })

-- ---- one after another

-- the service decides as these texts say; then each request is answered, and what it decides as from then on
abbrev pub AreAnswered : Texts → Decisions Loaded → List Call → Decisions Loaded → Type 0
AreAnswered ts s [] last = IsLoadedOf ts s.decider × (last ≡ s)
AreAnswered ts s (c ∷ cs) last =
    IsLoadedOf ts s.decider
    × ((us : Texts) × (next : Decisions Loaded) × IsNext ts s c us next × AreAnswered us next cs last)
