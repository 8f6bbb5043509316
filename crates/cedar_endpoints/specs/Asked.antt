-- What an AuthZEN document asks: by the names that it has, before anything of Cedar is read.
use Rattle.std.specs.Prelude.{◌||◌, Bool, true, false, option_map, List, ℕ, [], if◌then◌else◌, Option, Some, None, Result, Ok, Err, bytes_eq, codes}
use Rattle.std.specs.Option.{option_or}
use Rattle.json.specs.Json.{Json, Members, no_members, member}
use Rattle.json.specs.Find.{as_object, as_str, get}
use Rattle.json.specs.Value.{value_view}
use Rattle.cedar_endpoints.specs.declared.asked.Fault as faults
use Rattle.cedar_endpoints.specs.declared.asked.Named as nameds
use Rattle.cedar_endpoints.specs.declared.asked.Evaluation as evaluations
use Rattle.cedar_endpoints.specs.declared.asked.Properties as given
use Rattle.cedar_endpoints.specs.declared.asked.Keys.{Keys}
use Rattle.cedar_endpoints.specs.declared.asked.Keys.TheVariants as keys

abbrev pub Text : Type 0
Text = List ℕ

-- what is wrong: a part of the document, such as `.subject`, a member of it, such as `.type`, and why
pub record Fault : Type 0 where
  pub part : Text
  pub member : Text
  pub reason : Text

-- what a document says, or what is wrong with it
abbrev pub Said : Type 0 → Type 0
Said T = Result T Fault

-- a type and an id
pub record Named : Type 0 where
  pub type_name : Text
  pub id : Text

-- the properties that are given of each: where there are some, an object with a member at least
pub record Properties : Type 0 where
  pub subject : Option Json
  pub action : Option Json
  pub resource : Option Json

-- who asks, the name of what is to be done, what it is to be done with, the context, where one is given, and properties
pub record Evaluation : Type 0 where
  pub subject : Named
  pub action : Text
  pub resource : Named
  pub context : Option Json
  pub properties : Properties

-- ---- how these are seen

abbrev pub fault_view : faults.Fault → Fault
fault_view f = record { part = f.part.now; member = f.member.now; reason = f.reason.now }

abbrev pub named_view : nameds.Named → Named
named_view n = record { type_name = n.type_name.now; id = n.id.now }

abbrev pub properties_view : given.Properties → Properties
properties_view p = record {
  subject = option_map (λ v. value_view v.now) p.subject;
  action = option_map (λ v. value_view v.now) p.action;
  resource = option_map (λ v. value_view v.now) p.resource;
}

abbrev pub evaluation_view : evaluations.Evaluation → Evaluation
evaluation_view e = record {
  subject = named_view e.subject;
  action = e.action.now;
  resource = named_view e.resource;
  context = option_map (λ v. value_view v.now) e.context;
  properties = properties_view e.properties;
}

-- an answer, as what is said
abbrev pub told : {A T : Type 0} → (A → T) → Result A faults.Fault → Said T
told f (Ok a) = Ok (f a)
told f (Err e) = Err (fault_view e)

-- ---- what is wrong

abbrev pub wrong : {T : Type 0} → Text → Text → Text → Said T
wrong part key reason = Err (record { part = part; member = key; reason = reason })

abbrev pub fault : Text → Text → Text → Option Fault
fault part key reason = Some (record { part = part; member = key; reason = reason })

-- this, unless something is wrong
abbrev pub unless : {T : Type 0} → Option Fault → Said T → Said T
unless None s = s
unless (Some f) s = Err f

abbrev pub and_then : {T U : Type 0} → (T → Said U) → Said T → Said U
and_then f (Ok t) = f t
and_then f (Err r) = Err r

-- ---- which members there are

abbrev pub is_evaluation_key : Text → Bool
is_evaluation_key k =
    bytes_eq k (codes "subject") || (bytes_eq k (codes "action") || (bytes_eq k (codes "resource")
    || bytes_eq k (codes "context")))

abbrev pub is_action_search_key : Text → Bool
is_action_search_key k =
    bytes_eq k (codes "subject") || (bytes_eq k (codes "resource") || (bytes_eq k (codes "context")
    || bytes_eq k (codes "page")))

abbrev pub is_request_key : Text → Bool
is_request_key k =
    bytes_eq k (codes "principal") || (bytes_eq k (codes "action") || (bytes_eq k (codes "resource")
    || (bytes_eq k (codes "context") || (bytes_eq k (codes "entities") || bytes_eq k (codes "id")))))

abbrev pub knows : Keys → Text → Bool
knows keys.Evaluation k = is_evaluation_key k
knows keys.Evaluations k =
    is_evaluation_key k || (bytes_eq k (codes "evaluations") || bytes_eq k (codes "options"))
knows keys.Search k = is_evaluation_key k || bytes_eq k (codes "page")
knows keys.ActionSearch k = is_action_search_key k
knows keys.Page k = bytes_eq k (codes "token")
knows keys.Entity k =
    bytes_eq k (codes "type") || (bytes_eq k (codes "id") || bytes_eq k (codes "properties"))
knows keys.Action k = bytes_eq k (codes "name") || bytes_eq k (codes "properties")
knows keys.Options k = bytes_eq k (codes "evaluations_semantic")
knows keys.Request k = is_request_key k
knows keys.Uid k = bytes_eq k (codes "type") || bytes_eq k (codes "id")
knows keys.Escape k = bytes_eq k (codes "__entity")

-- some member has another key
abbrev pub has_other : Keys → Members → Bool
has_other ks no_members = false
has_other ks (member k j ms) = if knows ks k then has_other ks ms else true

abbrev pub other_fault : Text → Bool → Option Fault
other_fault part false = None
other_fault part true = fault part [] (codes "an unexpected member")

abbrev pub members_fault : Keys → Text → Option Members → Option Fault
members_fault ks part None = fault part [] (codes "not an object")
members_fault ks part (Some ms) = other_fault part (has_other ks ms)

-- it is no object, or has another member
abbrev pub object_fault : Keys → Text → Json → Option Fault
object_fault ks part j = members_fault ks part (as_object j)

-- ---- properties

abbrev pub kind_fault : Text → Option Members → Option Fault
kind_fault part None = fault part (codes ".properties") (codes "not an object")
kind_fault part (Some ms) = None

abbrev pub properties_fault : Text → Option Json → Option Fault
properties_fault part None = None
properties_fault part (Some j) = kind_fault part (as_object j)

-- it is no object of these members, or has properties that are none
abbrev pub shape_fault : Keys → Text → Json → Option Fault
shape_fault ks part j =
    option_or (object_fault ks part j) (properties_fault part (get (codes "properties") j))

abbrev pub some_fault : Text → Option Members → Option Fault
some_fault part None = fault part (codes ".properties") (codes "not an object")
some_fault part (Some no_members) = None
some_fault part (Some (member k j ms)) =
    fault part (codes ".properties") (codes "properties of what is searched for")

abbrev pub given_fault : Text → Option Json → Option Fault
given_fault part None = None
given_fault part (Some j) = some_fault part (as_object j)

-- it is no object of these members, or has properties: it may not, since only its type is known
abbrev pub bare_fault : Keys → Text → Json → Option Fault
bare_fault ks part j = option_or (object_fault ks part j) (given_fault part (get (codes "properties") j))

abbrev pub has_members : Option Members → Bool
has_members None = false
has_members (Some no_members) = false
has_members (Some (member k j ms)) = true

-- empty properties are none
abbrev pub given_at : Option Json → Option Json
given_at None = None
given_at (Some j) = if has_members (as_object j) then Some j else None

-- the properties of a part
abbrev pub given_in : Option Json → Option Json
given_in None = None
given_in (Some j) = given_at (get (codes "properties") j)

-- ---- parts

abbrev pub text_in : Text → Text → Option Text → Said Text
text_in part key None = wrong part key (codes "not a string")
text_in part key (Some t) = Ok t

abbrev pub text_said : Text → Text → Option Json → Said Text
text_said part key None = wrong part key (codes "missing")
text_said part key (Some j) = text_in part key (as_str j)

abbrev pub with_id : Text → Said Text → Said Named
with_id t (Ok i) = Ok (record { type_name = t; id = i })
with_id t (Err f) = Err f

abbrev pub type_and_id : Text → Json → Said Named
type_and_id part j =
    and_then (λ t. with_id t (text_said part (codes ".id") (get (codes "id") j)))
    (text_said part (codes ".type") (get (codes "type") j))

abbrev pub entity_in : Text → Json → Said Named
entity_in part j = unless (shape_fault keys.Entity part j) (type_and_id part j)

abbrev pub entity_said : Text → Option Json → Said Named
entity_said part None = wrong part [] (codes "missing")
entity_said part (Some j) = entity_in part j

abbrev pub action_in : Json → Said Text
action_in j =
    unless (shape_fault keys.Action (codes ".action") j)
    (text_said (codes ".action") (codes ".name") (get (codes "name") j))

abbrev pub action_said : Option Json → Said Text
action_said None = wrong (codes ".action") [] (codes "missing")
action_said (Some j) = action_in j

abbrev pub context_in : Json → Option Members → Said (Option Json)
context_in j None = wrong (codes ".context") [] (codes "not an object")
context_in j (Some ms) = Ok (Some j)

abbrev pub context_said : Option Json → Said (Option Json)
context_said None = Ok None
context_said (Some j) = context_in j (as_object j)

-- ---- an evaluation

-- the item's own member or, where it has none, the one that stands for all
abbrev pub member_of : Text → Json → Option Json → Option Json
member_of k j None = get k j
member_of k j (Some all) = option_or (get k j) (get k all)

-- the properties of the parts, each taken whole
abbrev pub properties_of : Json → Option Json → Properties
properties_of j all = record {
  subject = given_in (member_of (codes "subject") j all);
  action = given_in (member_of (codes "action") j all);
  resource = given_in (member_of (codes "resource") j all);
}

abbrev pub with_context : Json → Option Json → Named → Text → Named → Said Evaluation
with_context j all s a r =
    and_then
    (λ c. Ok (record { subject = s; action = a; resource = r; context = c; properties = properties_of j all }))
    (context_said (member_of (codes "context") j all))

abbrev pub with_resource : Json → Option Json → Named → Text → Said Evaluation
with_resource j all s a =
    and_then (λ r. with_context j all s a r) (entity_said (codes ".resource") (member_of (codes "resource") j all))

abbrev pub with_action : Json → Option Json → Named → Said Evaluation
with_action j all s = and_then (λ a. with_resource j all s a) (action_said (member_of (codes "action") j all))

abbrev pub parts_said : Json → Option Json → Said Evaluation
parts_said j all =
    and_then (λ s. with_action j all s) (entity_said (codes ".subject") (member_of (codes "subject") j all))

-- what the object of these members asks, with the other's members where it has none
abbrev pub evaluation_of : Keys → Json → Option Json → Said Evaluation
evaluation_of ks j all = unless (object_fault ks [] j) (parts_said j all)

-- what a document asks by itself
abbrev pub evaluation_said : Json → Said Evaluation
evaluation_said j = evaluation_of keys.Evaluation j None
