-- What a search of an engine finds.
use Rattle.std.specs.Prelude.{◌≡◌, ◌+◌, ℕ, Bool, List, [], true, false, Option, Some, None, map, take, length, nat_lt, if◌then◌else◌, codes, string_bytes}
use Rattle.std.specs.Option.{option_or}
use Rattle.json.specs.Json.{Json, object, member, no_members, string}
use Rattle.json.specs.Print.{print}
use Rattle.json.specs.Tree.{json_tokens}
use Rattle.cedar_model.specs.Terms.{Text, EntityName}
use Rattle.cedar_model.specs.World as world
use Rattle.cedar_model.specs.Rules.{StoredCalls}
use Rattle.cedar_model.specs.Settings.{Entry, unknown_entry, RequestPart}
use Rattle.cedar_layers.specs.declared.policies.entities.Entities.{Entities}
use Rattle.cedar_layers.specs.Stores.{store_view}
use Rattle.cedar_requests.specs.declared.request.Request.{Request}
use Rattle.cedar_requests.specs.Requests.{request_view, entry_type}
use Rattle.cedar_authorizer.specs.Responding.{considered}
use Rattle.cedar_search.specs.declared.searches.Part.{Part}
use Rattle.cedar_search.specs.declared.searches.Part.TheVariants as parts
use Rattle.cedar_search.specs.Questions.{Question, sought}
use Rattle.cedar_search.specs.Pages.{Page, page_made, IsPage}
use Rattle.cedar_endpoints.specs.Asked.{Named, Properties, Evaluation}
use Rattle.cedar_endpoints.specs.Searches.{Search, Parts, a_subject, an_action, a_resource}
use Rattle.cedar_endpoints.specs.declared.replies.Finding.{Finding}
use Rattle.cedar_endpoints.specs.declared.replies.Finding.TheVariants as findings
use Rattle.cedar_service.specs.declared.engine.Engine.{Engine}
use Rattle.cedar_service.specs.declared.faults.Refusal.{Refusal}
use Rattle.cedar_service.specs.declared.faults.Refusal.TheVariants as refusals
use Rattle.cedar_service.specs.Engines.{policies_of, entities_of, candidates_of}
use Rattle.cedar_service.specs.Faults.{IsFault}
use Rattle.cedar_service.specs.Properties.{IsAskedOver, AreUnlaid}
use Rattle.cedar_service.specs.Ways.{Ways}
use Rattle.cedar_service.specs.Standard.{standard_extensions, standard_calls}
use Rattle.cedar_service.specs.Asked.{IsAsked, IsUnasked, has_known_context}
use Rattle.cedar_service.specs.Decided.{configuration_of}

-- ---- what is asked

-- which part of a request is searched for
abbrev pub part_of : Parts → Part
part_of (a_subject t a r) = parts.Principal
part_of (an_action s r) = parts.Action
part_of (a_resource s a t) = parts.Resource

-- an entity of this type, with an empty id
abbrev pub sample_named : Text → Named
sample_named t = record { type_name = t; id = [] }

-- the evaluation, with an empty id or name in the part that is searched for
abbrev pub sample_with : Parts → Option Json → Properties → Evaluation
sample_with (a_subject t a r) c ps =
    record { subject = sample_named t; action = a; resource = r; context = c; properties = ps }
sample_with (an_action s r) c ps = record { subject = s; action = []; resource = r; context = c; properties = ps }
sample_with (a_resource s a t) c ps =
    record { subject = s; action = a; resource = sample_named t; context = c; properties = ps }

abbrev pub sample : Search → Evaluation
sample q = sample_with q.parts q.context q.properties

-- of an entry the type alone is left
abbrev pub type_alone : Entry → Entry
type_alone e = unknown_entry (entry_type e)

-- the request with this entry as the part
abbrev pub with_entry : Part → Entry → RequestPart → RequestPart
with_entry parts.Principal n r = record r { principal_entry = n }
with_entry parts.Action n r = record r { action_entry = n }
with_entry parts.Resource n r = record r { resource_entry = n }

-- the request, in which the part can be each entity of its type
abbrev pub opened : Part → RequestPart → RequestPart
opened part r = with_entry part (type_alone (sought part r)) r

-- that part of that request is searched for, over the store and by the engine's policies
abbrev pub question_of : world.Extensions → StoredCalls → Engine → Entities → Part → RequestPart → Question
question_of X calls e s part r = record {
  configuration = configuration_of X calls;
  part = part;
  request = r;
  store = store_view s;
  policies = considered (policies_of e);
}

-- ---- what is told

-- an entity by its type and its id
abbrev pub entity_json : EntityName → Json
entity_json e =
    object (member (codes "type") (string e.type_name) (member (codes "id") (string e.id) no_members))

-- what is found, as AuthZEN names it: an action by its name alone
abbrev pub found_json : Part → EntityName → Json
found_json parts.Principal e = entity_json e
found_json parts.Action e = object (member (codes "name") (string e.id) no_members)
found_json parts.Resource e = entity_json e

abbrev pub found_text : Part → EntityName → Text
found_text part e = print (json_tokens (found_json part e))

-- what is found is what the page has, in its order, and the next page begins where it says
abbrev pub IsFindingOf : Part → Page → Finding → Type 0
IsFindingOf part p (findings.Found results next) =
    (map string_bytes results.items ≡ map (found_text part) p.found) × (next ≡ p.next)
IsFindingOf part p (findings.Refused error) = ⊥

-- nothing is found, as this is so of what is told
abbrev pub IsUnfoundAs : (Text → Type 0) → Finding → Type 0
IsUnfoundAs Is (findings.Found results next) = ⊥
IsUnfoundAs Is (findings.Refused error) = Is (string_bytes error)

-- nothing is found, with what the refusal tells
abbrev pub IsUnfound : Refusal → Finding → Type 0
IsUnfound refusals.Memory f = ⊥
IsUnfound (refusals.Told t) (findings.Found results next) = ⊥
IsUnfound (refusals.Told t) (findings.Refused error) = error ≡ t

-- ---- searches

-- where the next page begins at the latest, if there is a candidate
abbrev pub next_at : ℕ → ℕ → Option ℕ
next_at stop count = if nat_lt stop count then Some stop else None

-- the page, which stops there at the latest
abbrev pub goes_on : ℕ → ℕ → Page → Page
goes_on stop count p = page_made p.found (option_or p.next (next_at stop count))

-- What is found is a page of these candidates, for which no more than so many of them are looked at: it is the page of
-- those up to there. Where none of these is left, the next page begins behind them, if there are more.
abbrev pub IsListed : ℕ → Question → List EntityName → ℕ → ℕ → Finding → Type 0
IsListed bound q us after most f =
    (p : Page) × IsPage q (take (after + bound) us) after most p
    × IsFindingOf q.part (goes_on (after + bound) (length us) p) f

-- what is found for a request of which a part is searched for: the page of those candidates with which it is allowed,
-- of which no more than so many are looked at; or where an unknown stands in its context, that
pub data IsPageFor (bound : ℕ) (X : world.Extensions) (calls : StoredCalls) (e : Engine) (s : Entities) (part : Part)
    (r : Request) (after most : ℕ) (f : Finding) : Type 0 where
  listed : has_known_context r ≡ true
      → IsListed bound (question_of X calls e s part (opened part (request_view r))) (candidates_of e) after most f
      → IsPageFor bound X calls e s part r after most f
  not_known : has_known_context r ≡ false
      → IsUnfoundAs (IsFault (codes "$.context") (codes "an unknown stands in it")) f
      → IsPageFor bound X calls e s part r after most f

-- what is found for the request that is asked: the page for it over the entities with the properties of the parts that
-- are known; or why these are refused
pub data IsFoundOver (X : world.Extensions) (calls : StoredCalls) (e : Engine) (w : Ways) (q : Evaluation)
    (part : Part) (r : Request) (after most : ℕ) (f : Finding) : Type 0 where
  laid : (s : Entities) → IsAskedOver X calls w (entities_of e) q s
      → IsPageFor w.bounds.candidates X calls e s part r after most f
      → IsFoundOver X calls e w q part r after most f
  not_laid : IsUnfoundAs (AreUnlaid X calls w (entities_of e) q) f
      → IsFoundOver X calls e w q part r after most f

-- what is found: that, for the request that is asked; or why none is
pub data IsFoundWith (X : world.Extensions) (calls : StoredCalls) (e : Engine) (w : Ways) (q : Search)
    (after most : ℕ) (f : Finding) : Type 0 where
  searched : (r : Request) → IsAsked X calls w.action_type (sample q) r
      → IsFoundOver X calls e w (sample q) (part_of q.parts) r after most f
      → IsFoundWith X calls e w q after most f
  not_searched : IsUnfoundAs (IsUnasked X calls (sample q)) f → IsFoundWith X calls e w q after most f

-- with the standard extensions
abbrev pub IsFound : Engine → Ways → Search → ℕ → ℕ → Finding → Type 0
IsFound = IsFoundWith standard_extensions standard_calls
