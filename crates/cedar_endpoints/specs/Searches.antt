-- What a document asks that searches.
use Rattle.std.specs.Prelude.{[], Option, Some, None, Ok, option_map, codes}
use Rattle.json.specs.Json.{Json}
use Rattle.json.specs.Find.{as_str, get}
use Rattle.json.specs.Value.{value_view}
use Rattle.cedar_endpoints.specs.declared.asked.Keys.{Keys}
use Rattle.cedar_endpoints.specs.declared.asked.Keys.TheVariants as keys
use Rattle.cedar_endpoints.specs.declared.searches.Sought.{Sought}
use Rattle.cedar_endpoints.specs.declared.searches.Sought.TheVariants as soughts
use Rattle.cedar_endpoints.specs.declared.searches.Parts as rust_parts
use Rattle.cedar_endpoints.specs.declared.searches.Parts.TheVariants as variants
use Rattle.cedar_endpoints.specs.declared.searches.Search as rust_search
use Rattle.cedar_endpoints.specs.declared.searches.PageSearch as rust_page
use Rattle.cedar_endpoints.specs.Asked.{Text, Said, Named, Properties, named_view, properties_view, wrong, unless, and_then, object_fault, bare_fault, given_in, text_in, text_said, entity_said, action_said, context_said}

-- what is known of an evaluation of which a part is searched for: subjects or resources of a type, or actions
pub data Parts : Type 0 where
  a_subject : (type_name action : Text) (resource : Named) → Parts
  an_action : (subject resource : Named) → Parts
  a_resource : (subject : Named) (action type_name : Text) → Parts

-- what is searched for, the context, where one is given, and the properties of the parts that are known
pub record Search : Type 0 where
  pub parts : Parts
  pub context : Option Json
  pub properties : Properties

-- a search, and the token of the page that is asked for, where that is not the first
pub record PageSearch : Type 0 where
  pub search : Search
  pub token : Option Text

-- ---- how these are seen

abbrev pub parts_view : rust_parts.Parts → Parts
parts_view (variants.Subject t a r) = a_subject t.now a.now (named_view r)
parts_view (variants.Action s r) = an_action (named_view s) (named_view r)
parts_view (variants.Resource s a t) = a_resource (named_view s) a.now t.now

abbrev pub search_view : rust_search.Search → Search
search_view s = record {
  parts = parts_view s.parts;
  context = option_map (λ v. value_view v.now) s.context;
  properties = properties_view s.properties;
}

abbrev pub page_search_view : rust_page.PageSearch → PageSearch
page_search_view s = record { search = search_view s.search; token = option_map (λ t. t.now) s.token }

-- ---- the parts

-- the type of what is searched for, whose id is not looked at
abbrev pub type_in : Text → Json → Said Text
type_in part j =
    unless (bare_fault keys.Entity part j) (text_said part (codes ".type") (get (codes "type") j))

abbrev pub type_said : Text → Option Json → Said Text
type_said part None = wrong part [] (codes "missing")
type_said part (Some j) = type_in part j

abbrev pub subject_with : Json → Text → Text → Said Parts
subject_with j t a =
    and_then (λ r. Ok (a_subject t a r)) (entity_said (codes ".resource") (get (codes "resource") j))

abbrev pub subject_by : Json → Text → Said Parts
subject_by j t = and_then (subject_with j t) (action_said (get (codes "action") j))

abbrev pub subject_parts : Json → Said Parts
subject_parts j = and_then (subject_by j) (type_said (codes ".subject") (get (codes "subject") j))

abbrev pub action_with : Json → Named → Said Parts
action_with j s = and_then (λ r. Ok (an_action s r)) (entity_said (codes ".resource") (get (codes "resource") j))

abbrev pub action_parts : Json → Said Parts
action_parts j = and_then (action_with j) (entity_said (codes ".subject") (get (codes "subject") j))

abbrev pub resource_with : Json → Named → Text → Said Parts
resource_with j s a =
    and_then (λ t. Ok (a_resource s a t)) (type_said (codes ".resource") (get (codes "resource") j))

abbrev pub resource_by : Json → Named → Said Parts
resource_by j s = and_then (resource_with j s) (action_said (get (codes "action") j))

abbrev pub resource_parts : Json → Said Parts
resource_parts j = and_then (resource_by j) (entity_said (codes ".subject") (get (codes "subject") j))

abbrev pub parts_said : Sought → Json → Said Parts
parts_said soughts.Subject j = subject_parts j
parts_said soughts.Action j = action_parts j
parts_said soughts.Resource j = resource_parts j

-- ---- the page

abbrev pub some_token : Text → Said (Option Text)
some_token t = Ok (Some t)

abbrev pub token_at : Option Json → Said (Option Text)
token_at None = Ok None
token_at (Some j) = and_then some_token (text_in (codes ".page") (codes ".token") (as_str j))

abbrev pub token_in : Json → Said (Option Text)
token_in j = unless (object_fault keys.Page (codes ".page") j) (token_at (get (codes "token") j))

-- the token of the page, where one is named
abbrev pub token_said : Option Json → Said (Option Text)
token_said None = Ok None
token_said (Some j) = token_in j

-- ---- a search

abbrev pub with_page : Json → Search → Said PageSearch
with_page j s =
    and_then (λ t. Ok (record { search = s; token = t })) (token_said (get (codes "page") j))

-- of the parts that are known
abbrev pub known_properties : Parts → Json → Properties
known_properties (a_subject t a r) j = record {
  subject = None;
  action = given_in (get (codes "action") j);
  resource = given_in (get (codes "resource") j);
}
known_properties (an_action s r) j = record {
  subject = given_in (get (codes "subject") j);
  action = None;
  resource = given_in (get (codes "resource") j);
}
known_properties (a_resource s a t) j = record {
  subject = given_in (get (codes "subject") j);
  action = given_in (get (codes "action") j);
  resource = None;
}

abbrev pub search_of : Json → Parts → Option Json → Search
search_of j ps c = record { parts = ps; context = c; properties = known_properties ps j }

abbrev pub with_context : Json → Parts → Said PageSearch
with_context j ps = and_then (λ c. with_page j (search_of j ps c)) (context_said (get (codes "context") j))

-- which members a search has
abbrev pub keys_of : Sought → Keys
keys_of soughts.Subject = keys.Search
keys_of soughts.Action = keys.ActionSearch
keys_of soughts.Resource = keys.Search

-- what a document searches for
abbrev pub search_said : Sought → Json → Said PageSearch
search_said s j = unless (object_fault (keys_of s) [] j) (and_then (with_context j) (parts_said s j))
