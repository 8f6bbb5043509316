-- What is written of the scope of a policy, of a policy and of a template, and reads back as itself.
use Rattle.std.specs.Prelude.{◌≡◌, ⊤, ℕ, Bool, true, false, List, [], ◌∷◌, Option, Some, None, Ok}
use Rattle.cedar_model.specs.Terms.{EntityName, entity_literal, Variable, principal, action, resource, Slot}
use Rattle.cedar_model.specs.Terms.{Term, literal, slot, both, binary}
use Rattle.cedar_model.specs.Agreement.{no_slots}
use Rattle.cedar_model.specs.World.{Slots}
use Rattle.cedar_functions.specs.Functions.{Knowledge}
use Rattle.cedar_layers.specs.Policies.{PolicyView}
use Rattle.cedar_policy_json_reader.specs.Policies.{policy_said, template_said}
use Rattle.cedar_policy_json_reader.specs.Scopes.{scope_said}
use Rattle.cedar_policy_json_reader.specs.Words.{is_name}
use Rattle.cedar_policy_json_writer.specs.Policies.{policy_json, template_json, with_slots}
use Rattle.cedar_policy_json_writer.specs.Scopes.{Place, entity_place, slot_place, Scope, any, equal_to, inside}
use Rattle.cedar_policy_json_writer.specs.Scopes.{inside_any, of_type, of_type_inside, scope_of, head_json, is_truth}
use Rattle.cedar_policy_json_laws.specs.Back.{IsReadable, AreUnderWords, put_all}

-- ---- scopes

-- the type of an entity is a name; a slot stands in templates alone
abbrev pub IsReadablePlace : Bool → Place → Type 0
IsReadablePlace is_open (entity_place e) = is_name e.type_name ≡ true
IsReadablePlace is_open (slot_place x) = is_open ≡ true

abbrev pub AreReadableEntities : List EntityName → Type 0
AreReadableEntities [] = ⊤
AreReadableEntities (e ∷ es) = (is_name e.type_name ≡ true) × AreReadableEntities es

abbrev pub IsReadableScope : Bool → Scope → Type 0
IsReadableScope is_open any = ⊤
IsReadableScope is_open (equal_to p) = IsReadablePlace is_open p
IsReadableScope is_open (inside p) = IsReadablePlace is_open p
IsReadableScope is_open (inside_any es) = AreReadableEntities es
IsReadableScope is_open (of_type n) = is_name n ≡ true
IsReadableScope is_open (of_type_inside n p) = (is_name n ≡ true) × IsReadablePlace is_open p

-- there is one, and it can be read
abbrev pub IsReadableHead : Bool → Option Scope → Type 0
IsReadableHead is_open None = ⊥
IsReadableHead is_open (Some x) = IsReadableScope is_open x

-- the constraint on this variable stands in a scope, with these entities for the slots, and can be read there; a slot
-- that is linked to none stands in a template
abbrev pub IsReadableConstraint : Bool → Slots → Variable → Term → Type 0
IsReadableConstraint is_open s v t = IsReadableHead is_open (scope_of s v t)

-- ---- entities instead of the slots

abbrev pub linked_slot : Slot → Option EntityName → Term
linked_slot x None = slot x
linked_slot x (Some e) = literal (entity_literal e)

abbrev pub linked_operand : Slots → Term → Term
linked_operand s (slot x) = linked_slot x (s x)
linked_operand s t = t

-- a constraint with the entities that the slots of a scope are linked to
abbrev pub linked_constraint : Slots → Term → Term
linked_constraint s (binary op t u) = binary op t (linked_operand s u)
linked_constraint s (both t u) = both t (linked_constraint s u)
linked_constraint s t = t

-- a policy with them, no slot of which is linked any more
abbrev pub with_entities : PolicyView → PolicyView
with_entities p = record p {
  principal_constraint = linked_constraint p.slots p.principal_constraint;
  action_constraint = linked_constraint p.slots p.action_constraint;
  resource_constraint = linked_constraint p.slots p.resource_constraint;
  slots = no_slots;
}

-- ---- scopes read back

-- what is written of a constraint is read as the constraint with the entities in it
abbrev pub LinkedScopeReadsBack : Variable → Term → Type 0
LinkedScopeReadsBack v t =
    (is_open : Bool) (s : Slots) → IsReadableConstraint is_open s v t
    → scope_said is_open v (head_json (scope_of s v t)) ≡ Ok (linked_constraint s t)

-- where no slot is linked, it is read as itself
abbrev pub ScopeReadsBack : Variable → Term → Type 0
ScopeReadsBack v t =
    (is_open : Bool) → IsReadableConstraint is_open no_slots v t
    → scope_said is_open v (head_json (scope_of no_slots v t)) ≡ Ok t

-- ---- policies and templates

-- the condition can be read within so many levels, or is `true`, which is not written
abbrev pub IsReadableCondition : Knowledge → ℕ → Term → Type 0
IsReadableCondition k n t = is_truth t ≡ false → IsReadable k n t

-- the constraints stand in the scope, and all parts can be read; annotations are under words, in their order
pub record IsReadablePolicy (is_open : Bool) (k : Knowledge) (n : ℕ) (p : PolicyView) : Type 0 where
  pub principal_stands : IsReadableConstraint is_open p.slots principal p.principal_constraint
  pub action_stands : IsReadableConstraint is_open p.slots action p.action_constraint
  pub resource_stands : IsReadableConstraint is_open p.slots resource p.resource_constraint
  pub has_condition : IsReadableCondition k n p.when_clause
  pub under_words : AreUnderWords p.annotations
  pub in_order : put_all [] p.annotations ≡ p.annotations

-- what is written of a policy is read, under its id, as the policy with the entities that its slots are linked to
abbrev pub LinkedPolicyReadsBack : PolicyView → Type 0
LinkedPolicyReadsBack p =
    (k : Knowledge) (n : ℕ) → IsReadablePolicy false k n p → policy_said k n p.id (policy_json p) ≡ Ok (with_entities p)

-- where no slot is linked, it is read as itself
abbrev pub PolicyReadsBack : PolicyView → Type 0
PolicyReadsBack p =
    (k : Knowledge) (n : ℕ) → p.slots ≡ no_slots → IsReadablePolicy false k n p
    → policy_said k n p.id (policy_json p) ≡ Ok p

-- what is written of a template is read as itself, whatever its slots are linked to, which is not written
abbrev pub TemplateReadsBack : PolicyView → Type 0
TemplateReadsBack p =
    (k : Knowledge) (n : ℕ) → IsReadablePolicy true k n (with_slots p no_slots)
    → template_said k n p.id (template_json p) ≡ Ok (with_slots p no_slots)
