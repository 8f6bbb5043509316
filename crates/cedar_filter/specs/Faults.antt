-- Which expressions are conditions on one row, and the first part of any other that is none.
use Rattle.std.specs.Prelude.{Bool, true, false, cond, ◌&&◌, Option, Some, None, is_some}
use Rattle.cedar_model.specs.Terms.{Text, EntityName, Literal, bool_literal, long_literal, text_literal, entity_literal}
use Rattle.cedar_model.specs.Terms.{ValueType, bool_type, long_type, string_type, set_type, record_type, entity_type}
use Rattle.cedar_model.specs.Terms.{extension_type, not_operator, neg_operator, is_empty_operator}
use Rattle.cedar_model.specs.Terms.{BinaryOperator, eq_operator, less_operator, less_eq_operator, add_operator}
use Rattle.cedar_model.specs.Terms.{sub_operator, mul_operator, in_operator, contains_operator, contains_all_operator}
use Rattle.cedar_model.specs.Terms.{contains_any_operator, get_tag_operator, has_tag_operator, Term, literal, variable}
use Rattle.cedar_model.specs.Terms.{slot, unknown, if_then_else, both, either, unary, binary, call, get_attribute}
use Rattle.cedar_model.specs.Terms.{has_attribute, extended_has, like, is_of_type, set_of, record_of}
use Rattle.cedar_model.specs.Outcomes.{text_eq}
use Rattle.cedar_names.specs.Equality.{annotation_eq}
use Rattle.cedar_filter.specs.Simplifying.{known_literal, literal_truth}

-- the first part that is none
abbrev pub earlier : Option Term → Option Term → Option Term
earlier None q = q
earlier (Some t) q = Some t

-- the expression, unless it is as it has to be
abbrev pub unless : Bool → Term → Option Term
unless fits t = cond fits None (Some t)

abbrev pub literal_is_uid : Literal → Bool
literal_is_uid (bool_literal b) = false
literal_is_uid (long_literal n) = false
literal_is_uid (text_literal t) = false
literal_is_uid (entity_literal e) = true

abbrev pub is_uid : Option Literal → Bool
is_uid None = false
is_uid (Some l) = literal_is_uid l

-- the row stands for the unknown of this name with this annotation
module _ (n : Text) (a : Option ValueType) where
  -- an attribute of the row, of an attribute of it, and so on
  abbrev pub path_fault : Term → Option Term
  path_fault (unknown m b) = unless (text_eq m n && annotation_eq b a) (unknown m b)
  path_fault (get_attribute t k) = path_fault t
  path_fault t = Some t

  -- a literal, or such an attribute
  abbrev pub operand_fault : Term → Option Term
  operand_fault t = cond (is_some (known_literal t)) None (path_fault t)

  abbrev pub binary_fault : BinaryOperator → Term → Term → Option Term
  binary_fault eq_operator s t = earlier (operand_fault s) (operand_fault t)
  binary_fault less_operator s t = earlier (operand_fault s) (operand_fault t)
  binary_fault less_eq_operator s t = earlier (operand_fault s) (operand_fault t)
  binary_fault add_operator s t = Some (binary add_operator s t)
  binary_fault sub_operator s t = Some (binary sub_operator s t)
  binary_fault mul_operator s t = Some (binary mul_operator s t)
  binary_fault in_operator s t = earlier (path_fault s) (unless (is_uid (known_literal t)) t)
  binary_fault contains_operator s t = earlier (path_fault s) (unless (is_some (known_literal t)) t)
  binary_fault contains_all_operator s t = Some (binary contains_all_operator s t)
  binary_fault contains_any_operator s t = Some (binary contains_any_operator s t)
  binary_fault get_tag_operator s t = Some (binary get_tag_operator s t)
  binary_fault has_tag_operator s t = Some (binary has_tag_operator s t)

  abbrev pub condition_fault : Term → Option Term
  condition_fault (literal l) = unless (is_some (literal_truth l)) (literal l)
  condition_fault (variable v) = Some (variable v)
  condition_fault (slot s) = Some (slot s)
  condition_fault (unknown m b) = Some (unknown m b)
  condition_fault (if_then_else c s t) =
      earlier (condition_fault c) (earlier (condition_fault s) (condition_fault t))
  condition_fault (both s t) = earlier (condition_fault s) (condition_fault t)
  condition_fault (either s t) = earlier (condition_fault s) (condition_fault t)
  condition_fault (unary not_operator t) = condition_fault t
  condition_fault (unary neg_operator t) = Some (unary neg_operator t)
  condition_fault (unary is_empty_operator t) = Some (unary is_empty_operator t)
  condition_fault (binary op s t) = binary_fault op s t
  condition_fault (call f ts) = Some (call f ts)
  condition_fault (get_attribute t k) = path_fault t
  condition_fault (has_attribute t k) = path_fault t
  condition_fault (extended_has t k ks) = Some (extended_has t k ks)
  condition_fault (like t p) = path_fault t
  condition_fault (is_of_type t u) = path_fault t
  condition_fault (set_of ts) = Some (set_of ts)
  condition_fault (record_of fs) = Some (record_of fs)

-- ---- the rest

abbrev pub untrue : Term
untrue = literal (bool_literal false)

abbrev pub literal_if_uid : Option Literal → Option Literal
literal_if_uid None = None
literal_if_uid (Some (bool_literal b)) = None
literal_if_uid (Some (long_literal m)) = None
literal_if_uid (Some (text_literal t)) = None
literal_if_uid (Some (entity_literal e)) = Some (entity_literal e)

-- with this literal behind the operator, if there is one
abbrev pub behind_operator : BinaryOperator → Term → Option Literal → Term
behind_operator op s None = untrue
behind_operator op s (Some l) = binary op s (literal l)

abbrev pub literal_or : Option Literal → Term → Term
literal_or None t = t
literal_or (Some l) t = literal l

module _ (n : Text) (a : Option ValueType) where
  -- the row in place of what is no attribute of it
  abbrev pub kept_path : Term → Term
  kept_path (get_attribute t k) = get_attribute (kept_path t) k
  kept_path t = unknown n a

  abbrev pub kept_operand : Term → Term
  kept_operand t = literal_or (known_literal t) (kept_path t)

  abbrev pub kept_binary : BinaryOperator → Term → Term → Term
  kept_binary eq_operator s t = binary eq_operator (kept_operand s) (kept_operand t)
  kept_binary less_operator s t = binary less_operator (kept_operand s) (kept_operand t)
  kept_binary less_eq_operator s t = binary less_eq_operator (kept_operand s) (kept_operand t)
  kept_binary add_operator s t = untrue
  kept_binary sub_operator s t = untrue
  kept_binary mul_operator s t = untrue
  kept_binary in_operator s t = behind_operator in_operator (kept_path s) (literal_if_uid (known_literal t))
  kept_binary contains_operator s t = behind_operator contains_operator (kept_path s) (known_literal t)
  kept_binary contains_all_operator s t = untrue
  kept_binary contains_any_operator s t = untrue
  kept_binary get_tag_operator s t = untrue
  kept_binary has_tag_operator s t = untrue

  -- the expression with `false` in place of each part that is no condition on the row: the same, where there is none
  abbrev pub kept_condition : Term → Term
  kept_condition (literal l) = cond (is_some (literal_truth l)) (literal l) untrue
  kept_condition (variable v) = untrue
  kept_condition (slot s) = untrue
  kept_condition (unknown m b) = untrue
  kept_condition (if_then_else c s t) = if_then_else (kept_condition c) (kept_condition s) (kept_condition t)
  kept_condition (both s t) = both (kept_condition s) (kept_condition t)
  kept_condition (either s t) = either (kept_condition s) (kept_condition t)
  kept_condition (unary not_operator t) = unary not_operator (kept_condition t)
  kept_condition (unary neg_operator t) = untrue
  kept_condition (unary is_empty_operator t) = untrue
  kept_condition (binary op s t) = kept_binary op s t
  kept_condition (call f ts) = untrue
  kept_condition (get_attribute t k) = get_attribute (kept_path t) k
  kept_condition (has_attribute t k) = has_attribute (kept_path t) k
  kept_condition (extended_has t k ks) = untrue
  kept_condition (like t p) = like (kept_path t) p
  kept_condition (is_of_type t u) = is_of_type (kept_path t) u
  kept_condition (set_of ts) = untrue
  kept_condition (record_of fs) = untrue

-- whether an entity can stand for an unknown of this annotation
abbrev pub can_stand_for : Option ValueType → EntityName → Bool
can_stand_for None e = true
can_stand_for (Some bool_type) e = false
can_stand_for (Some long_type) e = false
can_stand_for (Some string_type) e = false
can_stand_for (Some set_type) e = false
can_stand_for (Some record_type) e = false
can_stand_for (Some (entity_type t)) e = text_eq e.type_name t
can_stand_for (Some (extension_type t)) e = false
