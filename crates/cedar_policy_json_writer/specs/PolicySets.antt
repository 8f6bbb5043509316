-- Sets of policies in Cedar's JSON of policies, with templates and links.
use Rattle.std.specs.Prelude.{List, [], ◌∷◌, ◌++◌, map, Option, Some, None, codes}
use Rattle.json.specs.Json.{Json, string, array}
use Rattle.json.specs.Value.{items_of}
use Rattle.cedar_model.specs.Terms.{Text, EntityName, Slot, principal_slot, resource_slot}
use Rattle.cedar_model.specs.World.{Slots}
use Rattle.cedar_names.specs.Texts.{slot_text}
use Rattle.cedar_layers.specs.Policies.{PolicyView}
use Rattle.cedar_json_writer.specs.Texts.{object_of}
use Rattle.cedar_json_writer.specs.Written.{written_uid}
use Rattle.cedar_policy_json_writer.specs.Objects.{three_members}
use Rattle.cedar_policy_json_writer.specs.Policies.{policy_json, template_json}
use Rattle.cedar_policy_json_writer.specs.Links.{Link}

-- a policy under its id
abbrev pub policy_member : PolicyView → Text × Json
policy_member p = (p.id, policy_json p)

abbrev pub policies_json : List PolicyView → Json
policies_json ps = object_of (map policy_member ps)

-- a template under its id
abbrev pub template_member : PolicyView → Text × Json
template_member p = (p.id, template_json p)

abbrev pub templates_json : List PolicyView → Json
templates_json ps = object_of (map template_member ps)

-- ---- links

abbrev pub id_json : Text → Json
id_json i = string i

-- the entity of a slot, where it has one
abbrev pub value_members : Slot → Option EntityName → List (Text × Json)
value_members x None = []
value_members x (Some e) = (slot_text x, written_uid e) ∷ []

abbrev pub values_json : Slots → Json
values_json s =
    object_of (value_members principal_slot (s principal_slot) ++ value_members resource_slot (s resource_slot))

abbrev pub link_json : Link → Json
link_json l =
    three_members (codes "templateId") (id_json l.template_id) (codes "newId") (id_json l.new_id)
    (codes "values") (values_json l.values)

abbrev pub links_json : List Link → Json
links_json ls = array (items_of (map link_json ls))

-- ---- all of it

abbrev pub policy_set_json : List PolicyView → List PolicyView → List Link → Json
policy_set_json policies templates links =
    three_members (codes "staticPolicies") (policies_json policies) (codes "templates") (templates_json templates)
    (codes "templateLinks") (links_json links)
