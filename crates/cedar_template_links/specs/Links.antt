-- What the JSON of links says: templates by their ids, new ids, and entities for slots.
use Rattle.std.specs.Prelude.{ℕ, ◌+◌, ◌==◌, List, [], if◌then◌else◌, option_map, Option, Some, None, Ok, codes}
use Rattle.json.specs.Json.{Json, Items, no_items, item}
use Rattle.json.specs.Find.{as_array, get}
use Rattle.cedar_model.specs.Terms.{Text, EntityName}
use Rattle.cedar_names.specs.declared.names.EntityUID.{EntityUID}
use Rattle.cedar_names.specs.Names.{uid_name}
use Rattle.cedar_layers.specs.Policies.{policy_id_text}
use Rattle.cedar_policy_json_reader.specs.declared.errors.RefusalReason.TheVariants as reasons
use Rattle.cedar_policy_json_reader.specs.Paths.{at_key, at_index}
use Rattle.cedar_policy_json_reader.specs.Refusals.{Said, refused, under, before, both_said, made_of, and_then}
use Rattle.cedar_policy_json_reader.specs.Scopes.{plain_uid_said}
use Rattle.cedar_policy_json_reader.specs.Shapes.{member_count, three_at, text_said}
use Rattle.cedar_template_links.specs.declared.forms.LinkForm.{LinkForm}
use Rattle.cedar_template_links.specs.declared.forms.LinkForm.TheVariants as forms
use Rattle.cedar_template_links.specs.declared.links.Link.{Link}

-- the id of the template, the id of the policy that it is linked to, and the entities for its slots
pub record LinkView : Type 0 where
  pub template_id : Text
  pub new_id : Text
  pub principal : Option EntityName
  pub resource : Option EntityName

abbrev pub name_of : Option EntityUID → Option EntityName
name_of o = option_map uid_name o

abbrev pub link_view : Link → LinkView
link_view l = record {
  template_id = policy_id_text l.template_id;
  new_id = policy_id_text l.new_id;
  principal = name_of l.principal;
  resource = name_of l.resource;
}

-- ---- keys

abbrev pub template_key : LinkForm → Text
template_key forms.Set = codes "templateId"
template_key forms.File = codes "template_id"

abbrev pub id_key : LinkForm → Text
id_key forms.Set = codes "newId"
id_key forms.File = codes "link_id"

abbrev pub values_key : LinkForm → Text
values_key forms.Set = codes "values"
values_key forms.File = codes "args"

-- ---- the three members of a link

-- two ids, and what stands at the values
pub record Parts : Type 0 where
  pub template_id : Text
  pub new_id : Text
  pub values : Json

abbrev pub parts_of : Json → Text × Text → Parts
parts_of j p = record { template_id = p.0; new_id = p.1; values = j }

abbrev pub ids_said : Text → Text → Json × Json × Json → Said (Text × Text)
ids_said template id p = both_said (under (at_key template) (text_said p.0)) (under (at_key id) (text_said p.1))

abbrev pub parts_in : Text → Text → Json × Json × Json → Said Parts
parts_in template id p = made_of (parts_of p.2) (ids_said template id p)

-- what stands at these keys, the only ones that the object has
abbrev pub parts_at : Text → Text → Text → Json → Said Parts
parts_at template id values j = and_then (parts_in template id) (three_at template id values j)

abbrev pub parts_said : LinkForm → Json → Said Parts
parts_said form j = parts_at (template_key form) (id_key form) (values_key form) j

-- ---- values

abbrev pub principal_key : Text
principal_key = codes "?principal"

abbrev pub resource_key : Text
resource_key = codes "?resource"

abbrev pub one_if_there : Option Json → ℕ
one_if_there None = 0
one_if_there (Some j) = 1

abbrev pub slot_count : Json → ℕ
slot_count j = one_if_there (get principal_key j) + one_if_there (get resource_key j)

-- what stands at the two slots, each of which may be left out
abbrev pub slots_counted : Json → Option ℕ → Said (Option Json × Option Json)
slots_counted j None = refused reasons.NotAnObject
slots_counted j (Some n) = if n == slot_count j then Ok (get principal_key j, get resource_key j) else refused reasons.UnexpectedMember

abbrev pub slots_said : Json → Said (Option Json × Option Json)
slots_said j = slots_counted j (member_count j)

-- what stands at this key, where something does
abbrev pub value_said : {T : Type 0} → (Json → Said T) → Text → Option Json → Said (Option T)
value_said says k None = Ok None
value_said says k (Some j) = under (at_key k) (made_of Some (says j))

abbrev pub two_values : {T : Type 0} → (Json → Said T) → Option Json × Option Json → Said (Option T × Option T)
two_values says p = both_said (value_said says principal_key p.0) (value_said says resource_key p.1)

abbrev pub values_said : {T : Type 0} → (Json → Said T) → Json → Said (Option T × Option T)
values_said says j = and_then (two_values says) (slots_said j)

-- ---- links of a set

abbrev pub link_as : Text → Text → Option EntityName → Option EntityName → LinkView
link_as t n p r = record { template_id = t; new_id = n; principal = p; resource = r }

abbrev pub link_of : Parts → Option EntityName × Option EntityName → LinkView
link_of p v = link_as p.template_id p.new_id v.0 v.1

abbrev pub link_with : Parts → Said LinkView
link_with p = made_of (link_of p) (under (at_key (values_key forms.Set)) (values_said plain_uid_said p.values))

-- an object of `templateId`, `newId` and `values`
abbrev pub link_said : Json → Said LinkView
link_said j = and_then link_with (parts_said forms.Set j)

-- links in order, the first of this index
abbrev pub links_from : ℕ → Items → Said (List LinkView)
links_from n no_items = Ok []
links_from n (item j js) = before (under (at_index n) (link_said j)) (links_from (n + 1) js)

abbrev pub links_in : Option Items → Said (List LinkView)
links_in None = refused reasons.NotAnArray
links_in (Some js) = links_from 0 js

-- an array of links
abbrev pub links_said : Json → Said (List LinkView)
links_said j = links_in (as_array j)
