-- How an answer is sent.
use Rattle.std.specs.Prelude.{◌≡◌, List, ℕ, [], ◌∷◌, ◌++◌, Option, Some, None, codes}
use Rattle.http_header.specs.FieldValue.{FieldValue, IsFieldValue}
use Rattle.http_server.specs.declared.response.Response.{Response}
use Rattle.http_server.specs.Response.{IsResponse}
use Rattle.http1.specs.Fields.{Header}
use Rattle.cedar_endpoints.specs.declared.answers.Status.{Status}
use Rattle.cedar_endpoints.specs.declared.answers.Status.TheVariants as statuses

abbrev pub status_code : Status → ℕ
status_code statuses.Ok = 200
status_code statuses.BadRequest = 400
status_code statuses.NotFound = 404
status_code statuses.TooLarge = 413
status_code statuses.PostOnly = 405
status_code statuses.GetOnly = 405
status_code statuses.PutOnly = 405

-- which methods there are, where another was asked for
abbrev pub allowed : Status → List Header
allowed statuses.Ok = []
allowed statuses.BadRequest = []
allowed statuses.NotFound = []
allowed statuses.TooLarge = []
allowed statuses.PostOnly = (codes "allow", codes "POST") ∷ []
allowed statuses.GetOnly = (codes "allow", codes "GET, HEAD") ∷ []
allowed statuses.PutOnly = (codes "allow", codes "PUT") ∷ []

-- the fields that name a version: one, if a field can hold it
pub data NamesVersion (version : List ℕ) : List Header → Type 0 where
  named : NamesVersion version ((codes "cedar-version", version) ∷ [])
  no_value : ¬ IsFieldValue version → NamesVersion version []

-- behind these fields stand those that name the version; for private clauses
abbrev pub AddsVersion : List ℕ → List Header → List Header → Type 0
AddsVersion version before after = (fs : List Header) × NamesVersion version fs × (after ≡ before ++ fs)

-- the request's own id, where it has one
abbrev pub id_fields : Option FieldValue → List Header
id_fields None = []
id_fields (Some v) = (codes "x-request-id", v.bytes) ∷ []

-- that the body is JSON, the version, which methods there are, and the request's id
abbrev pub fields_sent : Status → List Header → Option FieldValue → List Header
fields_sent s version id =
    (codes "content-type", codes "application/json") ∷ (version ++ (allowed s ++ id_fields id))

-- the response is of this status, has this body, names the version, and sends the request's id back
abbrev pub IsSent : Status → List ℕ → Option FieldValue → List ℕ → Response → Type 0
IsSent s version id body p =
    (fs : List Header) × NamesVersion version fs × IsResponse (status_code s) (fields_sent s fs id) body p
