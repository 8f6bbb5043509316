-- What becomes of a service by a request.
use Rattle.std.specs.Prelude.{◌≡◌, List, ℕ, Some, string_bytes}
use Rattle.http.specs.declared.request.Request.{Request}
use Rattle.http.specs.Request.{body_of}
use Rattle.http_server.specs.declared.response.Response.{Response}
use Rattle.cedar_endpoints.specs.declared.answers.Status.TheVariants as statuses
use Rattle.cedar_endpoints.specs.declared.reloads.Untaken.{Untaken}
use Rattle.cedar_endpoints.specs.declared.reloads.Untaken.TheVariants as untakens
use Rattle.cedar_endpoints.specs.declared.routes.Replaced.{Replaced}
use Rattle.cedar_endpoints.specs.declared.service.Decisions.{Decisions}
use Rattle.cedar_endpoints.specs.Answers.{IsSent}
use Rattle.cedar_endpoints.specs.Asked.{Text}
use Rattle.cedar_endpoints.specs.Reloads.{replaced_by, taken_text}
use Rattle.cedar_endpoints.specs.Served.{Offers, asked_route, request_id, IsServed}

-- that a text was taken is replied: with 200, under the version from then on
abbrev pub IsTakenSent : Text → Request (List ℕ) → Response → Type 0
IsTakenSent version q p = IsSent statuses.Ok version (request_id q) (taken_text version) p

-- It stays as it is, and the response is what it owes to the request; or the request asks that a text be taken, which
-- it may, and is taken: the service decides as what is made of it, and that is replied.
pub data IsAnswered {D : Type 0} (s : Offers) (remakes : Replaced → Text → D → Type 0) (version : D → Text)
    (q : Request (List ℕ)) (p : Response) (before after : Decisions D) : Type 0 where
  stays : after ≡ before → IsServed s q p → IsAnswered s remakes version q p before after
  takes : (part : Replaced) (made : D) → replaced_by s.reloads.allows (asked_route q) ≡ Some part
      → remakes part (body_of q) made → after ≡ record before { decider = made }
      → IsTakenSent (version made) q p → IsAnswered s remakes version q p before after

-- the reply that there is is sent, under this version; for private clauses
abbrev pub IsUntakenSent : Text → Untaken → Request (List ℕ) → Response → Type 0
IsUntakenSent version untakens.Memory q p = ⊥
IsUntakenSent version (untakens.Replied r) q p = IsSent r.status version (request_id q) (string_bytes r.body) p
