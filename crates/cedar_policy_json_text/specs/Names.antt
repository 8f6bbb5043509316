-- How policies of JSON are called in a text.
use Rattle.std.specs.Prelude.{◌≡◌, ⊤, Bool, ◌&&◌, ◌||◌, List, [], ◌∷◌, ◌++◌, flat_map, if◌then◌else◌}
use Rattle.std.specs.Prelude.{Option, Some, None, is_some, codes}
use Rattle.std.specs.Map.{lookup}
use Rattle.cedar_model.specs.Terms.{Text, principal_slot, resource_slot}
use Rattle.cedar_model.specs.Outcomes.{text_eq}
use Rattle.cedar_layers.specs.Policies.{PolicyView, policy_id_text, first_repeated}
use Rattle.cedar_policy_set_reader.specs.PolicySets.{PolicySetView}
use Rattle.cedar_policy_json_text.specs.declared.errors.PolicyTextError.{PolicyTextError}
use Rattle.cedar_policy_json_text.specs.declared.errors.PolicyTextError.TheVariants as errors

-- ---- a policy

-- what a policy's annotation `id` says, if it has one
abbrev pub annotated : PolicyView → Option Text
annotated q = lookup (text_eq (codes "id")) q.annotations

-- the annotation, or else the id
abbrev pub annotation_or : Option Text → Text → Text
annotation_or None k = k
annotation_or (Some name) k = name

-- how a policy of a text is called: by its annotation `id` or, where it has none, by its id, which is its place
abbrev pub called : PolicyView → Text
called q = annotation_or (annotated q) q.id

-- whether the policy is one of a link: an entity stands for a slot
abbrev pub is_linked : PolicyView → Bool
is_linked p = is_some (p.slots principal_slot) || is_some (p.slots resource_slot)

-- how a policy of JSON is called: one of a link by its id, and any other by its annotation `id` or, where it has none,
-- by its id
abbrev pub name_of : PolicyView → Text
name_of p = if is_linked p then p.id else called p

-- whether the second policy, of a text, is called as the first one, of JSON, whose id is not lost: it is the name, or the
-- place in the text
abbrev pub goes_by : PolicyView → PolicyView → Bool
goes_by p q = text_eq (name_of p) (called q) && (text_eq p.id (called q) || text_eq p.id q.id)

-- ---- all policies of a set

-- the policy's id, and its name where that is not its id
abbrev pub id_and_name : PolicyView → List Text
id_and_name p = if text_eq p.id (name_of p) then p.id ∷ [] else p.id ∷ name_of p ∷ []

-- the first text that is the id or the name of two of the policies and templates, if there is one
abbrev pub first_shared : PolicySetView → Option Text
first_shared s = first_repeated (flat_map id_and_name s.policies ++ flat_map id_and_name s.templates)

-- where a policy is refused for a name that is another's too, it is the first such name
abbrev pub IsShared : PolicySetView → PolicyTextError → Type 0
IsShared s (errors.Unread error) = ⊤
IsShared s (errors.NoText id) = ⊤
IsShared s (errors.AnotherName path id name) = ⊤
IsShared s (errors.SharedName path id name) = first_shared s ≡ Some (policy_id_text name)
IsShared s (errors.Memory error) = ⊤
