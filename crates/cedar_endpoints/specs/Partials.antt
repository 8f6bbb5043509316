-- What Cedar's own request asks, of which parts may be unknown, and what is replied.
use Rattle.std.specs.Prelude.{[], Option, Some, None, Ok, Err, option_map, codes, string_bytes}
use Rattle.json.specs.Json.{Json}
use Rattle.json.specs.Find.{as_str, get}
use Rattle.json.specs.Value.{value_view}
use Rattle.cedar_endpoints.specs.declared.answers.Status.TheVariants as statuses
use Rattle.cedar_endpoints.specs.declared.asked.Keys.TheVariants as keys
use Rattle.cedar_endpoints.specs.declared.partials.Entry as rust_entry
use Rattle.cedar_endpoints.specs.declared.partials.Entry.TheVariants as variants
use Rattle.cedar_endpoints.specs.declared.partials.Partial as rust_partial
use Rattle.cedar_endpoints.specs.declared.replies.Remainder.{Remainder}
use Rattle.cedar_endpoints.specs.declared.replies.Remainder.TheVariants as remainders
use Rattle.cedar_endpoints.specs.declared.replies.Reply.{Reply}
use Rattle.cedar_endpoints.specs.Asked.{Text, Said, Named, named_view, unless, and_then, object_fault, text_in, text_said, context_said}
use Rattle.cedar_endpoints.specs.Ids.{given_id, HandsBack}
use Rattle.cedar_endpoints.specs.Replies.{Replies, IsFault, error_text}

-- an entity of any type that is unknown, or of this type; or one that is known, by its type and its id, or by Cedar's
-- text of it
pub data Entry : Type 0 where
  of_any : Entry
  of_type : (type_name : Text) → Entry
  of_name : (name : Named) → Entry
  of_text : (text : Text) → Entry

-- the three entities of a request, and its context, which is unknown where none is given
pub record Partial : Type 0 where
  pub principal : Entry
  pub action : Entry
  pub resource : Entry
  pub context : Option Json

-- ---- how these are seen

abbrev pub entry_view : rust_entry.Entry → Entry
entry_view variants.OfAny = of_any
entry_view (variants.OfType t) = of_type t.now
entry_view (variants.Known n) = of_name (named_view n)
entry_view (variants.Text t) = of_text t.now

abbrev pub partial_view : rust_partial.Partial → Partial
partial_view p = record {
  principal = entry_view p.principal;
  action = entry_view p.action;
  resource = entry_view p.resource;
  context = option_map (λ v. value_view v.now) p.context;
}

-- ---- an entity

abbrev pub known_as : Text → Text → Said Entry
known_as t i = Ok (of_name (record { type_name = t; id = i }))

-- without an id it is unknown, and of that type
abbrev pub id_said : Text → Text → Option Json → Said Entry
id_said part t None = Ok (of_type t)
id_said part t (Some j) = and_then (known_as t) (text_in part (codes ".id") (as_str j))

abbrev pub type_then_id : Text → Json → Text → Said Entry
type_then_id part j t = id_said part t (get (codes "id") j)

abbrev pub plain_in : Text → Json → Said Entry
plain_in part j =
    unless (object_fault keys.Uid part j)
    (and_then (type_then_id part j) (text_said part (codes ".type") (get (codes "type") j)))

-- with or without `__entity` round its type and its id; the second text is where that is
abbrev pub escaped_in : Text → Text → Json → Option Json → Said Entry
escaped_in part within j None = plain_in part j
escaped_in part within j (Some i) = unless (object_fault keys.Escape part j) (plain_in within i)

-- a text, or an object
abbrev pub named_in : Text → Text → Json → Option Text → Said Entry
named_in part within j (Some t) = Ok (of_text t)
named_in part within j None = escaped_in part within j (get (codes "__entity") j)

abbrev pub entry_in : Text → Text → Json → Said Entry
entry_in part within j = named_in part within j (as_str j)

-- what is left out is unknown
abbrev pub entry_said : Text → Text → Option Json → Said Entry
entry_said part within None = Ok of_any
entry_said part within (Some j) = entry_in part within j

-- ---- a request

abbrev pub principal_said : Json → Said Entry
principal_said j =
    entry_said (codes ".principal") (codes ".principal.__entity") (get (codes "principal") j)

abbrev pub action_said : Json → Said Entry
action_said j = entry_said (codes ".action") (codes ".action.__entity") (get (codes "action") j)

abbrev pub resource_said : Json → Said Entry
resource_said j = entry_said (codes ".resource") (codes ".resource.__entity") (get (codes "resource") j)

abbrev pub with_context : Json → Entry → Entry → Entry → Said Partial
with_context j p a r =
    and_then (λ c. Ok (record { principal = p; action = a; resource = r; context = c }))
    (context_said (get (codes "context") j))

abbrev pub with_resource : Json → Entry → Entry → Said Partial
with_resource j p a = and_then (with_context j p a) (resource_said j)

abbrev pub with_action : Json → Entry → Said Partial
with_action j p = and_then (with_resource j p) (action_said j)

-- what a document asks, whatever its id
abbrev pub partial_said : Json → Said Partial
partial_said j = unless (object_fault keys.Request [] j) (and_then (with_action j) (principal_said j))

-- ---- what is replied

-- what may be left of the policies for a request, with the entities that the text which writes it brings
abbrev pub Leaves : Type 1
Leaves = Partial → Text → Remainder → Type 0

-- what is left with 200, as it is; or why nothing is told with 400, or with 413 where the request brings more than it
-- may
abbrev pub IsRemainder : Remainder → Reply → Type 0
IsRemainder (remainders.Told response) = Replies statuses.Ok (string_bytes response)
IsRemainder (remainders.Refused error) = Replies statuses.BadRequest (error_text (string_bytes error))
IsRemainder (remainders.TooLarge error) = Replies statuses.TooLarge (error_text (string_bytes error))

-- what is left for what is said; or 400 for what is wrong
abbrev pub IsLeft : Leaves → Text → Said Partial → Reply → Type 0
IsLeft leaves text (Err f) r = IsFault statuses.BadRequest f r
IsLeft leaves text (Ok q) r = (o : Remainder) × leaves q text o × IsRemainder o r

-- the request of the document that the text writes is answered, if it says one, with its id, which stands for nothing
-- else
abbrev pub IsPartlyAnswered : Leaves → Text → Json → Reply → Type 0
IsPartlyAnswered leaves text j r = HandsBack (given_id j) (IsLeft leaves text (partial_said j)) r
