-- The expression that a condition on rows stands for, and what a row tells of it.
use Rattle.std.specs.Prelude.{true, false, cond, not, ◌||◌}
use Rattle.std.specs.Rc.{rc_str_bytes}
use Rattle.std.specs.Str.{chars}
use Rattle.std.specs.Ordering.{is_lt, is_le}
use Rattle.cedar_model.specs.Terms.{EntityName, bool_literal, entity_literal, not_operator, BinaryOperator, eq_operator}
use Rattle.cedar_model.specs.Terms.{less_operator, less_eq_operator, in_operator, contains_operator, Term, literal}
use Rattle.cedar_model.specs.Terms.{if_then_else, both, either, unary, binary, get_attribute, has_attribute, like}
use Rattle.cedar_model.specs.Terms.{is_of_type}
use Rattle.cedar_model.specs.Values.{AbstractValue, plain, Represented, plain_represented, set_represented}
use Rattle.cedar_model.specs.Values.{record_represented, extension_represented, expression_of}
use Rattle.cedar_model.specs.Keys.{value_eq}
use Rattle.cedar_model.specs.Sets.{has_value}
use Rattle.cedar_model.specs.Outcomes.{gives, text_of, entity_of, elements_of, text_eq, entity_eq, matches}
use Rattle.cedar_model.specs.Settings.{StoredEntity, is_among}
use Rattle.cedar_names.specs.Names.{uid_name, type_text}
use Rattle.cedar_names.specs.Leaves.{pattern_view}
use Rattle.cedar_filter.specs.declared.conditions.Operand.{Operand}
use Rattle.cedar_filter.specs.declared.conditions.Operand.TheVariants as operands
use Rattle.cedar_filter.specs.declared.conditions.Comparison.{Comparison}
use Rattle.cedar_filter.specs.declared.conditions.Comparison.TheVariants.{Equal, Less, LessEq}
use Rattle.cedar_filter.specs.declared.conditions.Condition.{Condition}
use Rattle.cedar_filter.specs.declared.conditions.Condition.TheVariants.{Known, And', Or', Not', If', Holds, Compare}
use Rattle.cedar_filter.specs.declared.conditions.Condition.TheVariants.{In, Has, Like, Is, Contains}
use Rattle.cedar_filter.specs.Rows.{Told, tells, untold, told_then, told_needing, told_bool, tells_bool}
use Rattle.cedar_filter.specs.Rows.{comparison_told, attribute_told, has_told}

-- ---- as expressions

abbrev pub operator_of : Comparison → BinaryOperator
operator_of Equal = eq_operator
operator_of Less = less_operator
operator_of LessEq = less_eq_operator

-- `row` is the unknown that the row stands for
module _ (row : Term) where
  abbrev pub operand_term : Operand → Term
  operand_term (operands.Known v) = expression_of v.what
  operand_term operands.Row = row
  operand_term (operands.Attribute' p o k) = get_attribute (operand_term o) (rc_str_bytes k)

  abbrev pub condition_term : Condition → Term
  condition_term (Known b) = literal (bool_literal b)
  condition_term (And' p a q b) = both (condition_term a) (condition_term b)
  condition_term (Or' p a q b) = either (condition_term a) (condition_term b)
  condition_term (Not' p a) = unary not_operator (condition_term a)
  condition_term (If' p c q a r b) = if_then_else (condition_term c) (condition_term a) (condition_term b)
  condition_term (Holds o) = operand_term o
  condition_term (Compare c o q) = binary (operator_of c) (operand_term o) (operand_term q)
  condition_term (In o u) = binary in_operator (operand_term o) (literal (entity_literal (uid_name u.value)))
  condition_term (Has o k) = has_attribute (operand_term o) (rc_str_bytes k)
  condition_term (Like o p) = like (operand_term o) (pattern_view p)
  condition_term (Is o t) = is_of_type (operand_term o) (type_text t)
  condition_term (Contains o v) = binary contains_operator (operand_term o) (expression_of v.what)

-- ---- what the row tells of them

-- a literal is told
abbrev pub known_told : Represented → Told
known_told (plain_represented l) = tells (gives (plain l))
known_told (set_represented vs) = untold
known_told (record_represented fs) = untold
known_told (extension_represented t k f ts) = untold

abbrev pub compared_told : Comparison → AbstractValue → AbstractValue → Told
compared_told Equal u v = tells_bool (value_eq u v)
compared_told Less u v = comparison_told is_lt u v
compared_told LessEq u v = comparison_told is_le u v

-- whether a set has a literal
abbrev pub contains_told : AbstractValue → Represented → Told
contains_told u v = told_then (known_told v) (λ z. told_needing (elements_of u) (λ us. tells_bool (has_value z us)))

module _ (e : EntityName) (x : StoredEntity) where
  abbrev pub operand_told : Operand → Told
  operand_told (operands.Known v) = known_told v.what
  operand_told operands.Row = tells (gives (plain (entity_literal e)))
  operand_told (operands.Attribute' p o k) = told_then (operand_told o) (λ v. attribute_told e x v (rc_str_bytes k))

  -- whether the row is in this entity
  abbrev pub within_told : EntityName → AbstractValue → Told
  within_told a u =
      told_needing (entity_of u) (λ d.
      cond (entity_eq d e) (tells_bool (entity_eq d a || is_among a x.ancestors)) untold)

  abbrev pub condition_says : Condition → Told
  condition_says (Known b) = tells_bool b
  condition_says (And' p a q b) =
      told_bool (condition_says a) (λ t. cond t (condition_says b) (tells_bool false))
  condition_says (Or' p a q b) = told_bool (condition_says a) (λ t. cond t (tells_bool true) (condition_says b))
  condition_says (Not' p a) = told_bool (condition_says a) (λ t. tells_bool (not t))
  condition_says (If' p c q a r b) =
      told_bool (condition_says c) (λ t. cond t (condition_says a) (condition_says b))
  condition_says (Holds o) = told_bool (operand_told o) tells_bool
  condition_says (Compare c o q) = told_then (operand_told o) (λ u. told_then (operand_told q) (compared_told c u))
  condition_says (In o u) = told_then (operand_told o) (within_told (uid_name u.value))
  condition_says (Has o k) = told_then (operand_told o) (λ v. has_told e x v (rc_str_bytes k))
  condition_says (Like o p) =
      told_then (operand_told o) (λ v. told_needing (text_of v) (λ t. tells_bool (matches (pattern_view p) (chars t))))
  condition_says (Is o t) =
      told_then (operand_told o) (λ v. told_needing (entity_of v) (λ d. tells_bool (text_eq d.type_name (type_text t))))
  condition_says (Contains o v) = told_then (operand_told o) (λ u. contains_told u v.what)
