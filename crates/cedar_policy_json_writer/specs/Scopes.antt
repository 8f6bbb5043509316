-- The scopes of policies: which constraint on a variable one has, and how it is written in Cedar's JSON.
use Rattle.std.specs.Prelude.{Bool, true, false, cond, ◌&&◌, is_some, List, [], ◌∷◌, ◌++◌, map, Option, Some, None}
use Rattle.std.specs.Prelude.{option_map, option_to_list, codes}
use Rattle.json.specs.Json.{Json, string, array}
use Rattle.json.specs.Value.{items_of}
use Rattle.cedar_model.specs.Terms.{Text, EntityName, Literal, bool_literal, long_literal, text_literal, entity_literal}
use Rattle.cedar_model.specs.Terms.{Variable, Slot, BinaryOperator, eq_operator, less_operator, less_eq_operator}
use Rattle.cedar_model.specs.Terms.{add_operator, sub_operator, mul_operator, in_operator, contains_operator}
use Rattle.cedar_model.specs.Terms.{contains_all_operator, contains_any_operator, get_tag_operator, has_tag_operator}
use Rattle.cedar_model.specs.Terms.{Term, literal, variable, slot, unknown, if_then_else, both, either, unary, binary}
use Rattle.cedar_model.specs.Terms.{call, get_attribute, has_attribute, extended_has, like, is_of_type, set_of}
use Rattle.cedar_model.specs.Terms.{record_of, Terms, no_terms, one_term}
use Rattle.cedar_model.specs.World.{Slots}
use Rattle.cedar_names.specs.Texts.{slot_text}
use Rattle.cedar_json_writer.specs.Texts.{object_of}
use Rattle.cedar_json_writer.specs.Written.{written_uid}
pub use Rattle.cedar_text_printer.specs.Scopes.{is_true_literal, is_variable, is_own_slot, takes_set, takes_type, is_in}

-- what stands beside `==` and `in`: an entity, or a slot that is linked to none
pub data Place : Type 0 where
  entity_place : EntityName → Place
  slot_place : Slot → Place

-- what a scope says of its variable: nothing, `== E`, `in E`, `in [E, ..]`, `is T`, `is T in E`
pub data Scope : Type 0 where
  any : Scope
  equal_to : Place → Scope
  inside : Place → Scope
  inside_any : List EntityName → Scope
  of_type : Text → Scope
  of_type_inside : Text → Place → Scope

-- ---- entities and slots

abbrev pub literal_entity : Literal → Option EntityName
literal_entity (bool_literal b) = None
literal_entity (long_literal n) = None
literal_entity (text_literal t) = None
literal_entity (entity_literal e) = Some e

-- the entity that a literal is
abbrev pub entity_in : Term → Option EntityName
entity_in (literal l) = literal_entity l
entity_in t = None

abbrev pub are_entities : Terms → Bool
are_entities no_terms = true
are_entities (one_term t ts) = is_some (entity_in t) && are_entities ts

abbrev pub entities_in : Terms → List EntityName
entities_in no_terms = []
entities_in (one_term t ts) = option_to_list (entity_in t) ++ entities_in ts

abbrev pub literal_place : Literal → Option Place
literal_place l = option_map entity_place (literal_entity l)

-- the variable's own slot
abbrev pub own_slot : Variable → Slot → Option Place
own_slot v x = cond (is_own_slot v x) (Some (slot_place x)) None

-- a slot: the entity that it is linked to, or the variable's own slot
abbrev pub linked_place : Variable → Slot → Option EntityName → Option Place
linked_place v x (Some e) = Some (entity_place e)
linked_place v x None = own_slot v x

abbrev pub place_of : Slots → Variable → Term → Option Place
place_of s v (literal l) = literal_place l
place_of s v (slot x) = linked_place v x (s x)
place_of s v t = None

-- ---- constraints

-- `true`
abbrev pub any_scope : Literal → Option Scope
any_scope l = cond (is_true_literal l) (Some any) None

-- `in` a set of entities, beside the action
abbrev pub listed_scope : Variable → Terms → Option Scope
listed_scope v ts = cond (takes_set v && are_entities ts) (Some (inside_any (entities_in ts))) None

abbrev pub inside_scope : Slots → Variable → Term → Option Scope
inside_scope s v (set_of ts) = listed_scope v ts
inside_scope s v t = option_map inside (place_of s v t)

abbrev pub operand_scope : Slots → Variable → BinaryOperator → Term → Option Scope
operand_scope s v eq_operator t = option_map equal_to (place_of s v t)
operand_scope s v in_operator t = inside_scope s v t
operand_scope s v op t = None

-- `v == E` and `v in E`
abbrev pub compared_scope : Slots → Variable → BinaryOperator → Term → Term → Option Scope
compared_scope s v op t u = cond (is_variable v t) (operand_scope s v op u) None

-- the type of `v is T`, beside the principal and the resource
abbrev pub tested_type : Variable → Term → Text → Option Text
tested_type v t n = cond (takes_type v && is_variable v t) (Some n) None

abbrev pub type_asked : Variable → Term → Option Text
type_asked v (is_of_type t n) = tested_type v t n
type_asked v t = None

-- the place of `v in E`
abbrev pub place_asked : Slots → Variable → BinaryOperator → Term → Term → Option Place
place_asked s v op t u = cond (is_in op && is_variable v t) (place_of s v u) None

abbrev pub place_inside : Slots → Variable → Term → Option Place
place_inside s v (binary op t u) = place_asked s v op t u
place_inside s v t = None

-- `v is T && v in E`
abbrev pub typed_scope : Option Text → Option Place → Option Scope
typed_scope None o = None
typed_scope (Some n) None = None
typed_scope (Some n) (Some p) = Some (of_type_inside n p)

-- what a scope says of the variable where it has this constraint; none, where no scope has it
abbrev pub scope_of : Slots → Variable → Term → Option Scope
scope_of s v (literal l) = any_scope l
scope_of s v (both t u) = typed_scope (type_asked v t) (place_inside s v u)
scope_of s v (binary op t u) = compared_scope s v op t u
scope_of s v (is_of_type t n) = option_map of_type (tested_type v t n)
scope_of s v t = None

-- `true`, which is no constraint
abbrev pub is_truth : Term → Bool
is_truth (literal l) = is_true_literal l
is_truth t = false

-- ---- their JSON

abbrev pub operator_member : Text → Text × Json
operator_member op = (codes "op", string op)

abbrev pub place_member : Place → Text × Json
place_member (entity_place e) = (codes "entity", written_uid e)
place_member (slot_place x) = (codes "slot", string (slot_text x))

abbrev pub place_json : Place → Json
place_json p = object_of (place_member p ∷ [])

abbrev pub compared_json : Text → Place → Json
compared_json op p = object_of (operator_member op ∷ place_member p ∷ [])

abbrev pub entities_json : List EntityName → Json
entities_json es = array (items_of (map written_uid es))

abbrev pub listed_json : List EntityName → Json
listed_json es = object_of (operator_member (codes "in") ∷ (codes "entities", entities_json es) ∷ [])

abbrev pub type_members : Text → List (Text × Json)
type_members n = operator_member (codes "is") ∷ (codes "entity_type", string n) ∷ []

abbrev pub scope_json : Scope → Json
scope_json any = object_of (operator_member (codes "All") ∷ [])
scope_json (equal_to p) = compared_json (codes "==") p
scope_json (inside p) = compared_json (codes "in") p
scope_json (inside_any es) = listed_json es
scope_json (of_type n) = object_of (type_members n)
scope_json (of_type_inside n p) = object_of (type_members n ++ (codes "in", place_json p) ∷ [])

-- what stands in the scope; where the constraint does not, nothing is said of the variable there
abbrev pub head_json : Option Scope → Json
head_json None = scope_json any
head_json (Some x) = scope_json x
