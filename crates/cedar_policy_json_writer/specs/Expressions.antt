-- Expressions in Cedar's JSON of policies: an object with one member, named by the operator.
use Rattle.std.specs.Prelude.{List, [], ◌∷◌, map, Option, Some, None, codes}
use Rattle.std.specs.Char.{encode_utf8}
use Rattle.json.specs.Json.{Json, string, array, object, Items, no_items, item, Members, no_members, member}
use Rattle.json.specs.Value.{items_of}
use Rattle.cedar_model.specs.Terms.{Text, EntityName, Literal, entity_literal, Variable, Slot, ValueType}
use Rattle.cedar_model.specs.Terms.{PatternPart, character, wildcard, Term, literal, variable, slot, unknown}
use Rattle.cedar_model.specs.Terms.{if_then_else, both, either, unary, binary, call, get_attribute, has_attribute}
use Rattle.cedar_model.specs.Terms.{extended_has, like, is_of_type, set_of, record_of, Terms, no_terms, one_term}
use Rattle.cedar_model.specs.Terms.{Fields, no_fields, one_field}
use Rattle.cedar_model.specs.World.{Slots}
use Rattle.cedar_names.specs.Texts.{variable_text, slot_text}
use Rattle.cedar_json_writer.specs.Written.{sole_member, two_members, written_literal}
use Rattle.cedar_policy_json_writer.specs.Objects.{three_members, operation}
use Rattle.cedar_policy_json_writer.specs.Names.{unary_name, binary_name, type_json}

-- ---- leaves

-- a boolean, a number, a text or an entity
abbrev pub value_json : Literal → Json
value_json l = sole_member (codes "Value") (written_literal l)

abbrev pub variable_json : Variable → Json
variable_json v = sole_member (codes "Var") (string (variable_text v))

abbrev pub open_slot_json : Slot → Json
open_slot_json s = sole_member (codes "Slot") (string (slot_text s))

-- a slot: the entity that it is linked to, or the slot itself
abbrev pub linked_json : Slot → Option EntityName → Json
linked_json s None = open_slot_json s
linked_json s (Some e) = value_json (entity_literal e)

abbrev pub untyped_unknown : Text → Json
untyped_unknown n = sole_member (codes "Unknown") (sole_member (codes "name") (string n))

abbrev pub typed_unknown : Text → ValueType → Json
typed_unknown n t =
    sole_member (codes "Unknown") (two_members (codes "name") (string n) (codes "type") (type_json t))

-- an unknown, with its type where that is known
abbrev pub unknown_json : Text → Option ValueType → Json
unknown_json n None = untyped_unknown n
unknown_json n (Some t) = typed_unknown n t

-- a part of a pattern: the wildcard, or one character
abbrev pub pattern_part_json : PatternPart → Json
pattern_part_json (character c) = sole_member (codes "Literal") (string (encode_utf8 c))
pattern_part_json wildcard = string (codes "Wildcard")

abbrev pub pattern_json : List PatternPart → Json
pattern_json ps = array (items_of (map pattern_part_json ps))

-- attributes, one behind the other
abbrev pub path_json : Text → List Text → Json
path_json first more = array (items_of (map string (first ∷ more)))

-- ---- operators on parts that are written already

abbrev pub one_operand : Text → Json → Json
one_operand op j = sole_member op (sole_member (codes "arg") j)

abbrev pub two_operands : Text → Json → Json → Json
two_operands op left right = operation op left (codes "right") right

-- `.` and `has`
abbrev pub attribute_json : Text → Json → Text → Json
attribute_json op left attribute = operation op left (codes "attr") (string attribute)

abbrev pub if_json : Json → Json → Json → Json
if_json test then other =
    sole_member (codes "if-then-else") (three_members (codes "if") test (codes "then") then (codes "else") other)

-- ---- all of them, with these entities for the slots

abbrev mutual
  pub expression_json : Slots → Term → Json
  expression_json s (literal l) = value_json l
  expression_json s (variable v) = variable_json v
  expression_json s (slot x) = linked_json x (s x)
  expression_json s (unknown n t) = unknown_json n t
  expression_json s (if_then_else c t u) = if_json (expression_json s c) (expression_json s t) (expression_json s u)
  expression_json s (both t u) = two_operands (codes "&&") (expression_json s t) (expression_json s u)
  expression_json s (either t u) = two_operands (codes "||") (expression_json s t) (expression_json s u)
  expression_json s (unary op t) = one_operand (unary_name op) (expression_json s t)
  expression_json s (binary op t u) = two_operands (binary_name op) (expression_json s t) (expression_json s u)
  expression_json s (call f ts) = sole_member f (array (items_json s ts))
  expression_json s (get_attribute t k) = attribute_json (codes ".") (expression_json s t) k
  expression_json s (has_attribute t k) = attribute_json (codes "has") (expression_json s t) k
  expression_json s (extended_has t k ks) =
      operation (codes "has") (expression_json s t) (codes "attr") (path_json k ks)
  expression_json s (like t p) = operation (codes "like") (expression_json s t) (codes "pattern") (pattern_json p)
  expression_json s (is_of_type t n) = operation (codes "is") (expression_json s t) (codes "entity_type") (string n)
  expression_json s (set_of ts) = sole_member (codes "Set") (array (items_json s ts))
  expression_json s (record_of fs) = sole_member (codes "Record") (object (members_json s fs))

  -- parts in order
  pub items_json : Slots → Terms → Items
  items_json s no_terms = no_items
  items_json s (one_term t ts) = item (expression_json s t) (items_json s ts)

  -- parts under their keys
  pub members_json : Slots → Fields → Members
  members_json s no_fields = no_members
  members_json s (one_field k t fs) = member k (expression_json s t) (members_json s fs)
