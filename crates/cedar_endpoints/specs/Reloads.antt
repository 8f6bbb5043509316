-- What is replied where other policies or entities are to be taken in place of these.
use Rattle.std.specs.Prelude.{◌≡◌, ⊤, ◌++◌, Bool, true, false, Option, Some, None, codes, string_bytes}
use Rattle.std.specs.Str.{IsUtf8}
use Rattle.cedar_endpoints.specs.declared.answers.Status.TheVariants as statuses
use Rattle.cedar_endpoints.specs.declared.reloads.Untaken.{Untaken}
use Rattle.cedar_endpoints.specs.declared.reloads.Untaken.TheVariants as untakens
use Rattle.cedar_endpoints.specs.declared.replies.NotRemade.{NotRemade}
use Rattle.cedar_endpoints.specs.declared.replies.NotRemade.TheVariants as failures
use Rattle.cedar_endpoints.specs.declared.replies.Reply.{Reply}
use Rattle.cedar_endpoints.specs.declared.routes.Replaced.{Replaced}
use Rattle.cedar_endpoints.specs.declared.routes.Route.{Route}
use Rattle.cedar_endpoints.specs.declared.routes.Route.TheVariants as routes
use Rattle.cedar_endpoints.specs.Asked.{Text}
use Rattle.cedar_endpoints.specs.Documents.{whole}
use Rattle.cedar_endpoints.specs.Replies.{Replies, IsFault, error_text}

-- why a text is refused that is to be taken: what is told of it
abbrev pub Refuses : Type 1
Refuses = Replaced → Text → Text → Type 0

-- whether other texts are taken, and why one is refused
pub record Reloads : Type 1 where
  pub allows : Bool
  pub refuses : Refuses

-- what is told is so; else memory ran out
abbrev pub IsNotRemade : (Text → Type 0) → NotRemade → Type 0
IsNotRemade Is failures.Memory = ⊤
IsNotRemade Is (failures.Told error) = Is (string_bytes error)

-- what is replied where a text was taken: the version from then on
abbrev pub taken_text : Text → Text
taken_text version = codes "{\"version\":\"" ++ (version ++ codes "\"}")

-- which of the two a request is to replace, if it asks for that and may
abbrev pub replaced_by : Bool → Route → Option Replaced
replaced_by false r = None
replaced_by true routes.Evaluation = None
replaced_by true routes.Evaluations = None
replaced_by true (routes.Search sought) = None
replaced_by true routes.Authorize = None
replaced_by true routes.PartiallyAuthorize = None
replaced_by true (routes.Reload part) = Some part
replaced_by true routes.Health = None
replaced_by true routes.Metadata = None
replaced_by true routes.PostOnly = None
replaced_by true routes.GetOnly = None
replaced_by true routes.PutOnly = None
replaced_by true routes.Unknown = None

-- ---- where none is taken

-- the body is no text, or it is refused, and that is told with 400
pub data IsUntaken (refuses : Refuses) (part : Replaced) (body : Text) (r : Reply) : Type 0 where
  no_text : ¬ IsUtf8 body → IsFault statuses.BadRequest (whole (codes "not UTF-8")) r
      → IsUntaken refuses part body r
  refused_as : (t : Text) → refuses part body t → Replies statuses.BadRequest (error_text t) r
      → IsUntaken refuses part body r

abbrev pub IsNothingHere : Reply → Type 0
IsNothingHere r = IsFault statuses.NotFound (whole (codes "nothing is here")) r

-- the same, if other texts are taken at all; else nothing is there
abbrev pub IsUntakenIf : Bool → Refuses → Replaced → Text → Reply → Type 0
IsUntakenIf false refuses part body r = IsNothingHere r
IsUntakenIf true refuses part body r = IsUntaken refuses part body r

-- there is `PUT` alone, if other texts are taken at all; else nothing is there
abbrev pub IsPutAlone : Bool → Reply → Type 0
IsPutAlone false r = IsNothingHere r
IsPutAlone true r = IsFault statuses.PutOnly (whole (codes "there is PUT alone")) r

-- the reply is so; else memory ran out; for private clauses
abbrev pub IsUntakenAs : (Reply → Type 0) → Untaken → Type 0
IsUntakenAs Is untakens.Memory = ⊤
IsUntakenAs Is (untakens.Replied r) = Is r

-- that it is refused with what the reason tells
abbrev pub Reports : NotRemade → Untaken → Type 0
Reports failures.Memory u = u ≡ untakens.Memory
Reports (failures.Told error) u = IsUntakenAs (Replies statuses.BadRequest (error_text (string_bytes error))) u
