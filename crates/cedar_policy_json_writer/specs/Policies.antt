-- Policies and templates in Cedar's JSON of policies.
use Rattle.std.specs.Prelude.{Bool, false, cond, ◌||◌, is_some, List, [], ◌∷◌, ◌++◌, map, Option, Some, None, codes}
use Rattle.json.specs.Json.{Json, string, array}
use Rattle.json.specs.Value.{items_of}
use Rattle.cedar_model.specs.Terms.{Text, Term, principal, action, resource}
use Rattle.cedar_model.specs.Agreement.{no_slots}
use Rattle.cedar_model.specs.World.{Slots}
use Rattle.cedar_layers.specs.Policies.{PolicyView}
use Rattle.cedar_text_printer.specs.Policies.{effect_text}
use Rattle.cedar_json_writer.specs.Texts.{object_of}
use Rattle.cedar_json_writer.specs.Written.{two_members}
use Rattle.cedar_policy_json_writer.specs.Expressions.{expression_json}
use Rattle.cedar_policy_json_writer.specs.Scopes.{Scope, scope_of, head_json, is_truth}

abbrev pub effect_member : PolicyView → Text × Json
effect_member p = (codes "effect", string (effect_text p.effect))

-- ---- the scope: all constraints before the first that no scope has, so that they are asked in their order

-- the second, where there is a first
abbrev pub behind : Option Scope → Option Scope → Option Scope
behind None o = None
behind (Some x) o = o

abbrev pub principal_scope : PolicyView → Option Scope
principal_scope p = scope_of p.slots principal p.principal_constraint

abbrev pub action_scope : PolicyView → Option Scope
action_scope p = behind (principal_scope p) (scope_of p.slots action p.action_constraint)

abbrev pub resource_scope : PolicyView → Option Scope
resource_scope p = behind (action_scope p) (scope_of p.slots resource p.resource_constraint)

abbrev pub principal_member : PolicyView → Text × Json
principal_member p = (codes "principal", head_json (principal_scope p))

abbrev pub action_member : PolicyView → Text × Json
action_member p = (codes "action", head_json (action_scope p))

abbrev pub resource_member : PolicyView → Text × Json
resource_member p = (codes "resource", head_json (resource_scope p))

abbrev pub scope_members : PolicyView → List (Text × Json)
scope_members p = principal_member p ∷ action_member p ∷ resource_member p ∷ []

-- ---- conditions

abbrev pub when_json : Slots → Term → Json
when_json s t = two_members (codes "kind") (string (codes "when")) (codes "body") (expression_json s t)

-- what does not stand in the scope and is not `true`
abbrev pub condition_items : Bool → Slots → Term → List Json
condition_items stands s t = cond (stands || is_truth t) [] (when_json s t ∷ [])

abbrev pub principal_condition : PolicyView → List Json
principal_condition p = condition_items (is_some (principal_scope p)) p.slots p.principal_constraint

abbrev pub action_condition : PolicyView → List Json
action_condition p = condition_items (is_some (action_scope p)) p.slots p.action_constraint

abbrev pub resource_condition : PolicyView → List Json
resource_condition p = condition_items (is_some (resource_scope p)) p.slots p.resource_constraint

-- the constraints that no scope has, and then the policy's own condition
abbrev pub conditions_json : PolicyView → Json
conditions_json p = array (items_of (
    ((principal_condition p ++ action_condition p) ++ resource_condition p)
    ++ condition_items false p.slots p.when_clause))

-- ---- annotations

abbrev pub annotation_member : Text × Text → Text × Json
annotation_member a = (a.0, string a.1)

abbrev pub annotations_json : List (Text × Text) → Json
annotations_json as_given = object_of (map annotation_member as_given)

-- they are left out where there are none
abbrev pub annotations_members : List (Text × Text) → List (Text × Json)
annotations_members [] = []
annotations_members (a ∷ more) = (codes "annotations", annotations_json (a ∷ more)) ∷ []

-- ---- all of it

abbrev pub policy_members : PolicyView → List (Text × Json)
policy_members p =
    effect_member p ∷ (scope_members p ++ ((codes "conditions", conditions_json p) ∷ annotations_members p.annotations))

abbrev pub policy_json : PolicyView → Json
policy_json p = object_of (policy_members p)

-- the policy, with these entities for its slots
abbrev pub with_slots : PolicyView → Slots → PolicyView
with_slots p s = record p { slots = s }

-- the template of a policy: no slot is linked
abbrev pub template_json : PolicyView → Json
template_json p = policy_json (with_slots p no_slots)
