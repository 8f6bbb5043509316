-- Requests that are answered one after another.
use Rattle.std.proofs.Common.{◌≡◌, sym, subst, ◌∙◌, List, ℕ, [], ◌∷◌, Some}
use Rattle.http.specs.declared.request.Request.{Request}
use Rattle.http.specs.Request.{body_of}
use Rattle.http_server.specs.declared.response.Response.{Response}
use Rattle.http_server.specs.Exchange.{Call, Chain}
use Rattle.cedar_endpoints.specs.Answered.{IsAnswered, stays, takes, IsTakenSent}
use Rattle.cedar_endpoints.specs.Reloads.{replaced_by}
use Rattle.cedar_endpoints.specs.Served.{asked_route}
use Rattle.cedar_endpoints.specs.declared.service.Decisions.{Decisions}
use Rattle.cedar_service.specs.declared.loaded.Loaded.{Loaded}
use Rattle.cedar_service.specs.Loaded.{Texts, IsLoadedOf, Remakes, replaced_with}
use Rattle.cedar_service.specs.Serving.{offers_of, loaded_version, IsNext, kept, taken, AreAnswered}

abbrev answered : Decisions Loaded → Request (List ℕ) → Response → Decisions Loaded → Type 0
answered before request response after =
    IsAnswered (offers_of before) (Remakes before.decider) loaded_version request response before after

-- a step from a service that decides as these texts say leads to one that decides as such texts say
record Step (ts : Texts) (s : Decisions Loaded) (c : Call) (next : Decisions Loaded) : Type 0 where
  texts : Texts
  is_next : IsNext ts s c texts next
  loaded : IsLoadedOf texts next.decider

step : (ts : Texts) (s next : Decisions Loaded) (c : Call) → IsLoadedOf ts s.decider → answered s c.0 c.1 next
    → Step ts s c next
step ts s next c has (stays same served) =
    subst (λ (n : Decisions Loaded). Step ts s c n) (sym same)
    (record { texts = ts; is_next = kept served; loaded = has })
step ts s next c has (takes part made asked is same sent) =
    let loaded : IsLoadedOf (replaced_with part (body_of c.0) ts) made =
    subst (λ (us : Texts). IsLoadedOf (replaced_with part (body_of c.0) us) made) has.texts is in
    subst (λ (n : Decisions Loaded). Step ts s c n) (sym same)
    (record {
      texts = replaced_with part (body_of c.0) ts;
      is_next = taken part made asked loaded sent;
      loaded = loaded;
    })

pub all_answered : (calls : List Call) (ts : Texts) (s last : Decisions Loaded) → IsLoadedOf ts s.decider
    → Chain answered s calls last → AreAnswered ts s calls last
all_answered [] ts s last has h = (has, h)
all_answered (c ∷ cs) ts s last has (next, one, rest) =
    let t : Step ts s c next = step ts s next c has one in
    (has, (t.texts, next, t.is_next, all_answered cs t.texts next last t.loaded rest))
