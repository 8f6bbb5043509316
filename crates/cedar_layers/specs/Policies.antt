-- Policies as plain data.
use Rattle.std.specs.Prelude.{◌≡◌, Bool, true, false, if◌then◌else◌, List, [], ◌∷◌, ◌++◌, map, Option, option_map}
use Rattle.std.specs.Map.{lookup}
use Rattle.std.specs.Rc.{rc_str_bytes}
use Rattle.std.specs.declared.hash.BuildHasherDefault.{BuildHasherDefault}
use Rattle.std.specs.declared.hash.FoldHasher.{FoldHasher}
use Rattle.std.specs.HashMap.{HashMap}
pub use Rattle.cedar_model.specs.Refusals.{first_repeated, first_repeated_after}
use Rattle.cedar_model.specs.Terms.{Text, Slot, principal_slot, resource_slot, literal, bool_literal, Term, both}
use Rattle.cedar_model.specs.World.{Slots}
use Rattle.cedar_model.specs.Policies as model
use Rattle.cedar_model.specs.Agreement.{no_slots}
use Rattle.cedar_names.specs.declared.names.EntityUID.{EntityUID}
use Rattle.cedar_names.specs.declared.names.Loc.{Loc}
use Rattle.cedar_names.specs.declared.names.SlotId.{SlotId}
use Rattle.cedar_names.specs.declared.names.SlotId.TheVariants as slots
use Rattle.cedar_names.specs.Names.{uid_name}
use Rattle.cedar_expressions.specs.declared.expr.Expr.{Expr}
use Rattle.cedar_expressions.specs.View.{view, expr_loc}
use Rattle.cedar_expressions.specs.Nodes.{And, node_of}
use Rattle.cedar_layers.specs.declared.policies.policy.Annotations.{Annotations}
use Rattle.cedar_layers.specs.declared.policies.policy.Effect.{Effect}
use Rattle.cedar_layers.specs.declared.policies.policy.Effect.TheVariants as effects
use Rattle.cedar_layers.specs.declared.policies.policy.Policy.{Policy}
use Rattle.cedar_layers.specs.declared.policies.policy.PolicyID.{PolicyID}

-- a policy: its effect, its id, its annotations under their keys, the four parts of its condition, and the values of the slots
pub record PolicyView : Type 0 where
  pub effect : model.Effect
  pub id : Text
  pub annotations : List (Text × Text)
  pub principal_constraint : Term
  pub action_constraint : Term
  pub resource_constraint : Term
  pub when_clause : Term
  pub slots : Slots

-- the condition of a policy
abbrev pub condition_term : PolicyView → Term
condition_term p =
    both (both (both p.principal_constraint p.action_constraint) p.resource_constraint) p.when_clause

-- the policy with its condition
abbrev pub decides_as : PolicyView → model.Policy
decides_as p =
    record { id = p.id; effect = p.effect; annotations = p.annotations; condition = condition_term p; slots = p.slots }

abbrev pub effect_view : Effect → model.Effect
effect_view effects.Permit = model.permit
effect_view effects.Forbid = model.forbid

-- the text of an id
abbrev pub policy_id_text : PolicyID → Text
policy_id_text i = rc_str_bytes i.0

-- the annotations under their keys, in the order of the keys' bytes
abbrev pub annotations_view : Annotations → List (Text × Text)
annotations_view a = map (λ e. (rc_str_bytes e.0, rc_str_bytes e.1)) a.0.entries

-- whether this is the slot's id
abbrev pub is_slot : Slot → SlotId → Bool
is_slot principal_slot slots.Principal = true
is_slot principal_slot slots.Resource = false
is_slot resource_slot slots.Principal = false
is_slot resource_slot slots.Resource = true

-- a `SlotEnv`
abbrev pub SlotValues : Type 0
SlotValues = HashMap SlotId EntityUID (BuildHasherDefault FoldHasher)

-- the values of the slots
abbrev pub slots_view : SlotValues → Slots
slots_view env s = option_map uid_name (lookup (is_slot s) env.entries)

-- the parts of a policy's condition, whole: with their own locations
pub record ConditionParts : Type 0 where
  pub principal : Expr
  pub action : Expr
  pub resource : Expr
  pub when : Expr

abbrev pub condition_parts : Expr → Expr → Expr → Expr → ConditionParts
condition_parts principal action resource when =
    record { principal = principal; action = action; resource = resource; when = when }

abbrev pub policy_parts : Policy → ConditionParts
policy_parts p = condition_parts p.principal.value p.action.value p.resource.value p.when.value

-- what a policy is made of, as plain data
abbrev pub policy_of : Effect → PolicyID → Annotations → ConditionParts → SlotValues → PolicyView
policy_of effect id annotations parts env = record {
  effect = effect_view effect;
  id = policy_id_text id;
  annotations = annotations_view annotations;
  principal_constraint = view parts.principal;
  action_constraint = view parts.action;
  resource_constraint = view parts.resource;
  when_clause = view parts.when;
  slots = slots_view env;
}

-- the same where all constraints are `true` and no slot has a value
abbrev pub policy_when : Effect → PolicyID → Annotations → Expr → PolicyView
policy_when effect id annotations clause = record {
  effect = effect_view effect;
  id = policy_id_text id;
  annotations = annotations_view annotations;
  principal_constraint = literal (bool_literal true);
  action_constraint = literal (bool_literal true);
  resource_constraint = literal (bool_literal true);
  when_clause = view clause;
  slots = no_slots;
}

-- a policy as plain data
abbrev pub policy_view : Policy → PolicyView
policy_view p = policy_of p.effect p.id p.annotations.value (policy_parts p) p.env.value

-- the same policy of another id, with these values of the slots
abbrev pub linked : PolicyView → Text → Slots → PolicyView
linked p id slots = record p { id = id; slots = slots }

-- where a policy stands
abbrev pub policy_location : Policy → Option Loc
policy_location p = p.loc

-- a copy says the same, part by part, and stands where its policy does
abbrev pub IsCopy : Policy → Policy → Type 0
IsCopy p copy =
    (policy_view copy ≡ policy_view p) × (policy_parts copy ≡ policy_parts p) × (policy_location copy ≡ policy_location p)

-- the expression is the conjunction of these two at this location
pub record IsConjunction (l : Option Loc) (a b e : Expr) : Type 0 where
  pub node : node_of e ≡ And a b
  pub loc : expr_loc e ≡ l

-- the expression is `((principal && action) && resource) && when` of these parts, with each `&&` at this location
pub record IsConditionOf (p : ConditionParts) (l : Option Loc) (e : Expr) : Type 0 where
  pub pair : Expr
  pub scope : Expr
  pub of_pair : IsConjunction l p.principal p.action pair
  pub of_scope : IsConjunction l pair p.resource scope
  pub of_condition : IsConjunction l scope p.when e

-- the ids of policies, in order
abbrev pub policy_ids : List PolicyView → List Text
policy_ids ps = map (λ p. p.id) ps

-- the first id of policies that is a duplicate
abbrev pub first_repeated_id : List Policy → Option Text
first_repeated_id ps = first_repeated (policy_ids (map policy_view ps))
