-- What a service answers to requests over HTTP, whatever decides behind it.
use Rattle.std.specs.Prelude.{Bool, List, ℕ, Option, Some, None, codes, string_bytes}
use Rattle.std.specs.Str.{IsUtf8}
use Rattle.json.specs.Json.{Json}
use Rattle.http.specs.declared.request.Request.{Request}
use Rattle.http.specs.Request.{head_of, body_of}
use Rattle.http_uri.specs.Uri.{uri_path}
use Rattle.http_header.specs.HeaderMap.{get}
use Rattle.http_header.specs.FieldValue.{FieldValue}
use Rattle.http_server.specs.declared.response.Response.{Response}
use Rattle.cedar_endpoints.specs.declared.answers.Status.TheVariants as statuses
use Rattle.cedar_endpoints.specs.declared.replies.Outcome.{Outcome}
use Rattle.cedar_endpoints.specs.declared.replies.Outcome.TheVariants as outcomes
use Rattle.cedar_endpoints.specs.declared.replies.Reply.{Reply}
use Rattle.cedar_endpoints.specs.declared.routes.Route.{Route}
use Rattle.cedar_endpoints.specs.declared.routes.Route.TheVariants as routes
use Rattle.cedar_endpoints.specs.Answers.{IsSent}
use Rattle.cedar_endpoints.specs.declared.service.Asks.{Asks}
use Rattle.cedar_endpoints.specs.declared.service.Asks.TheVariants as asks
use Rattle.cedar_endpoints.specs.Asked.{Text, Evaluation, evaluation_said}
use Rattle.cedar_endpoints.specs.Found.{Finder, IsSearched}
use Rattle.cedar_endpoints.specs.Documents.{IsRepliedTo, whole}
use Rattle.cedar_endpoints.specs.Ids.{IsIdIn, HandsBack}
use Rattle.cedar_endpoints.specs.Replies.{Replies, IsFault, error_text}
use Rattle.cedar_endpoints.specs.Several.{Decides, IsDecided, AreEvaluated}
use Rattle.cedar_endpoints.specs.Partials.{Leaves, IsPartlyAnswered}
use Rattle.cedar_endpoints.specs.Reloads.{Reloads, Refuses, IsUntakenIf, IsPutAlone}
use Rattle.cedar_endpoints.specs.Routes.{route_of}

-- ---- AuthZEN's documents

-- the document's evaluation is decided, if it says one
abbrev pub IsEvaluated : Decides Evaluation → Json → Reply → Type 0
IsEvaluated decides j r = IsDecided decides (evaluation_said j) r

-- ---- Cedar's own request

-- a response with 200, as it is; or why there is none with 400, or with 413 where the request brings more than it may
abbrev pub IsResponded : Outcome → Reply → Type 0
IsResponded (outcomes.Decided b context) = Replies statuses.Ok (string_bytes context)
IsResponded (outcomes.Refused error) = Replies statuses.BadRequest (error_text (string_bytes error))
IsResponded (outcomes.TooLarge error) = Replies statuses.TooLarge (error_text (string_bytes error))

-- the response to a request, without its id
abbrev pub IsResponseTo : Decides Text → Text → Reply → Type 0
IsResponseTo authorizes text r = (o : Outcome) × authorizes text o × IsResponded o r

-- what is replied to a body: the response to the text that it is, with the id of the request; or 400 since it is none
pub data IsAuthorized (authorizes : Decides Text) (body : Text) (r : Reply) : Type 0 where
  no_text : ¬ IsUtf8 body → IsFault statuses.BadRequest (whole (codes "not UTF-8")) r → IsAuthorized authorizes body r
  of_text : {id : Option Text} → IsIdIn body id → HandsBack id (IsResponseTo authorizes body) r
      → IsAuthorized authorizes body r

-- ---- the endpoints

-- where the endpoints are, if that was said
abbrev pub IsMetadata : Option Text → Reply → Type 0
IsMetadata None = IsFault statuses.NotFound (whole (codes "nothing is here"))
IsMetadata (Some text) = Replies statuses.Ok text

-- what a service has to offer: its decisions of evaluations and of Cedar's own requests, what it leaves of policies,
-- its searches, whether other policies and entities are taken in place of these, where its endpoints are, and how many
-- evaluations one document may ask
pub record Offers : Type 1 where
  pub decides : Decides Evaluation
  pub authorizes : Decides Text
  pub leaves : Leaves
  pub searches : Finder
  pub reloads : Reloads
  pub metadata : Option Text
  pub most : ℕ

abbrev pub reloads_of : Bool → Refuses → Reloads
reloads_of allows refuses = record { allows = allows; refuses = refuses }

abbrev pub offered : Decides Evaluation → Decides Text → Leaves → Finder → Reloads → Option Text → ℕ → Offers
offered decides authorizes leaves searches reloads metadata most =
    record {
      decides = decides;
      authorizes = authorizes;
      leaves = leaves;
      searches = searches;
      reloads = reloads;
      metadata = metadata;
      most = most;
    }

-- what is replied to a document, which this text writes: one evaluation is decided, or all of a document that may ask
-- several, or it is a page of what is searched for, or what is left of policies
abbrev pub IsAskedAs : Asks → Offers → Text → Json → Reply → Type 0
IsAskedAs asks.One s text = IsEvaluated s.decides
IsAskedAs asks.Several s text = AreEvaluated s.most s.decides
IsAskedAs (asks.Part sought) s text = IsSearched s.searches sought
IsAskedAs asks.Partly s text = IsPartlyAnswered s.leaves text

-- what is replied at an endpoint to a body
abbrev pub IsReply : Offers → Route → Text → Reply → Type 0
IsReply s routes.Evaluation body r = IsRepliedTo (IsEvaluated s.decides) body r
IsReply s routes.Evaluations body r = IsRepliedTo (AreEvaluated s.most s.decides) body r
IsReply s (routes.Search sought) body r = IsRepliedTo (IsSearched s.searches sought) body r
IsReply s routes.Authorize body r = IsAuthorized s.authorizes body r
IsReply s routes.PartiallyAuthorize body r = IsRepliedTo (IsPartlyAnswered s.leaves body) body r
IsReply s (routes.Reload part) body r = IsUntakenIf s.reloads.allows s.reloads.refuses part body r
IsReply s routes.Health body r = Replies statuses.Ok (codes "{\"status\":\"ok\"}") r
IsReply s routes.Metadata body r = IsMetadata s.metadata r
IsReply s routes.PostOnly body r = IsFault statuses.PostOnly (whole (codes "there is POST alone")) r
IsReply s routes.GetOnly body r = IsFault statuses.GetOnly (whole (codes "there are GET and HEAD alone")) r
IsReply s routes.PutOnly body r = IsPutAlone s.reloads.allows r
IsReply s routes.Unknown body r = IsFault statuses.NotFound (whole (codes "nothing is here")) r

-- ---- over HTTP

-- which endpoint a request names
abbrev pub asked_route : Request (List ℕ) → Route
asked_route q = route_of (head_of q).method (uri_path (head_of q).uri)

-- the id that a request brings
abbrev pub request_id : Request (List ℕ) → Option FieldValue
request_id q = get (head_of q).headers (codes "x-request-id")

-- the response is the reply that is due, whole, and no other
pub record IsServed (s : Offers) (q : Request (List ℕ)) (p : Response) : Type 0 where
  pub reply : Reply
  pub is_due : IsReply s (asked_route q) (body_of q) reply
  pub sent : IsSent reply.status s.searches.version (request_id q) (string_bytes reply.body) p
