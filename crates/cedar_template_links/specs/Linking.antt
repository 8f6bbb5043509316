-- Which policies links make of templates.
use Rattle.std.specs.Prelude.{◌||◌, Bool, true, false, length, List, [], ◌∷◌, ◌++◌, if◌then◌else◌, Option, Some, None, Ok}
use Rattle.cedar_model.specs.Terms.{Text, EntityName, Slot, principal_slot, resource_slot, Term, slot, both, binary}
use Rattle.cedar_model.specs.World.{Slots}
use Rattle.cedar_model.specs.Outcomes.{text_eq}
use Rattle.cedar_layers.specs.Policies.{PolicyView, linked}
use Rattle.cedar_policy_json_reader.specs.declared.errors.RefusalReason.TheVariants as reasons
use Rattle.cedar_policy_json_reader.specs.Leaves.{or_refused}
use Rattle.cedar_policy_json_reader.specs.Paths.{at_key, at_index}
use Rattle.cedar_policy_json_reader.specs.Refusals.{Said, refused, refused_there, under, both_said, made_of, and_then}
use Rattle.cedar_policy_json_reader.specs.Shapes.{missing}
use Rattle.cedar_template_links.specs.declared.forms.LinkForm.{LinkForm}
use Rattle.cedar_template_links.specs.Links.{LinkView, template_key, id_key, values_key, principal_key, resource_key}

-- ---- slots of a template

abbrev pub same_slot : Slot → Slot → Bool
same_slot principal_slot principal_slot = true
same_slot principal_slot resource_slot = false
same_slot resource_slot principal_slot = false
same_slot resource_slot resource_slot = true

-- whether the slot stands in the constraint, where a scope has one: alone, or beside an operator, also behind `&&`
abbrev pub has_slot : Slot → Term → Bool
has_slot s (slot t) = same_slot s t
has_slot s (both t u) = has_slot s u
has_slot s (binary op t u) = has_slot s u
has_slot s t = false

abbrev pub has_principal_slot : PolicyView → Bool
has_principal_slot p = has_slot principal_slot p.principal_constraint

abbrev pub has_resource_slot : PolicyView → Bool
has_resource_slot p = has_slot resource_slot p.resource_constraint

-- these entities, each in its slot
abbrev pub slots_with : Option EntityName × Option EntityName → Slots
slots_with v principal_slot = v.0
slots_with v resource_slot = v.1

-- with this entity in the slot, where there is one
abbrev pub with_value : Slot → Option EntityName → Slots → Slots
with_value s None values = values
with_value s (Some e) values = λ t. if same_slot s t then Some e else values t

-- ---- ids

-- whether a policy has this id
abbrev pub has_id : Text → List PolicyView → Bool
has_id k [] = false
has_id k (p ∷ ps) = text_eq k p.id || has_id k ps

-- the first template of this id
abbrev pub find_template : Text → List PolicyView → Option PolicyView
find_template k [] = None
find_template k (t ∷ ts) = if text_eq k t.id then Some t else find_template k ts

abbrev pub template_said : Text → List PolicyView → Said PolicyView
template_said k ts = or_refused reasons.NoSuchTemplate (find_template k ts)

-- the id, which none of the policies, the templates and the policies of links before has
abbrev pub id_said : List PolicyView → List PolicyView → List PolicyView → Text → Said Text
id_said ps ts done k = if has_id k ps || (has_id k ts || has_id k done) then refused reasons.TakenId else Ok k

-- ---- links

-- the entity, exactly where the template has the slot
abbrev pub entity_said : Text → Bool → Option EntityName → Said (Option EntityName)
entity_said k true None = missing k
entity_said k true (Some e) = Ok (Some e)
entity_said k false None = Ok None
entity_said k false (Some e) = refused_there (at_key k) reasons.NoSuchSlot

abbrev pub entities_said : PolicyView → LinkView → Said (Option EntityName × Option EntityName)
entities_said t l =
    both_said (entity_said principal_key (has_principal_slot t) l.principal) (entity_said resource_key (has_resource_slot t) l.resource)

abbrev pub linked_with : PolicyView → Text → Option EntityName × Option EntityName → PolicyView
linked_with t k v = linked t k (slots_with v)

abbrev pub linked_under : LinkForm → LinkView → PolicyView → Text → Said PolicyView
linked_under form l t k = made_of (linked_with t k) (under (at_key (values_key form)) (entities_said t l))

abbrev pub linked_of : LinkForm → List PolicyView → List PolicyView → List PolicyView → LinkView → PolicyView → Said PolicyView
linked_of form ps ts done l t = and_then (linked_under form l t) (under (at_key (id_key form)) (id_said ps ts done l.new_id))

-- the policy of a link behind those that are made already: its template under the new id, with the entities in its slots
abbrev pub link_made : LinkForm → List PolicyView → List PolicyView → List PolicyView → LinkView → Said PolicyView
link_made form ps ts done l =
    and_then (linked_of form ps ts done l) (under (at_key (template_key form)) (template_said l.template_id ts))

-- behind those that are made already
abbrev pub made_from : LinkForm → List PolicyView → List PolicyView → List PolicyView → List LinkView → Said (List PolicyView)
made_from form ps ts done [] = Ok done
made_from form ps ts done (l ∷ ls) =
    and_then (λ p. made_from form ps ts (done ++ p ∷ []) ls) (under (at_index (length done)) (link_made form ps ts done l))

-- the policies that the links make of these templates, beside these policies
abbrev pub links_made : LinkForm → List PolicyView → List PolicyView → List LinkView → Said (List PolicyView)
links_made form ps ts ls = made_from form ps ts [] ls
