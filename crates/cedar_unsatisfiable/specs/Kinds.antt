-- Kinds of values: of which kind what an expression means can only be, and which kinds an operator takes.
use Rattle.std.specs.Prelude.{Bool, true, false, not, ◌||◌, Option, None, Some}
use Rattle.cedar_model.specs.Terms.{Literal, bool_literal, long_literal, text_literal, entity_literal}
use Rattle.cedar_model.specs.Terms.{Variable, principal, action, resource, context}
use Rattle.cedar_model.specs.Terms.{UnaryOperator, not_operator, neg_operator, is_empty_operator, BinaryOperator}
use Rattle.cedar_model.specs.Terms.{eq_operator, less_operator, less_eq_operator, add_operator, sub_operator}
use Rattle.cedar_model.specs.Terms.{mul_operator, in_operator, contains_operator, contains_all_operator}
use Rattle.cedar_model.specs.Terms.{contains_any_operator, get_tag_operator, has_tag_operator, Term, literal, variable}
use Rattle.cedar_model.specs.Terms.{slot, unknown, if_then_else, both, either, unary, binary, call, get_attribute}
use Rattle.cedar_model.specs.Terms.{has_attribute, extended_has, like, is_of_type, set_of, record_of}
use Rattle.cedar_model.specs.Values.{AbstractValue, plain, set_value, record_value, extension_value}
use Rattle.cedar_unsatisfiable.specs.declared.kinds.Kind as kinds
use Rattle.cedar_unsatisfiable.specs.declared.kinds.Kind.TheVariants as variants

-- the kinds of values, but for those of extensions
pub data Kind : Type 0 where
  truth : Kind
  number : Kind
  text : Kind
  entity : Kind
  set : Kind
  record_kind : Kind

-- ---- the kind of a value

abbrev pub literal_kind : Literal → Kind
literal_kind (bool_literal b) = truth
literal_kind (long_literal n) = number
literal_kind (text_literal t) = text
literal_kind (entity_literal e) = entity

-- that of an extension is none of these
abbrev pub kind_of : AbstractValue → Option Kind
kind_of (plain l) = Some (literal_kind l)
kind_of (set_value vs) = Some set
kind_of (record_value fs) = Some record_kind
kind_of (extension_value t k) = None

-- ---- the kind that an expression shows

abbrev pub variable_kind : Variable → Kind
variable_kind principal = entity
variable_kind action = entity
variable_kind resource = entity
variable_kind context = record_kind

abbrev pub unary_kind : UnaryOperator → Kind
unary_kind not_operator = truth
unary_kind neg_operator = number
unary_kind is_empty_operator = truth

abbrev pub binary_kind : BinaryOperator → Option Kind
binary_kind eq_operator = Some truth
binary_kind less_operator = Some truth
binary_kind less_eq_operator = Some truth
binary_kind add_operator = Some number
binary_kind sub_operator = Some number
binary_kind mul_operator = Some number
binary_kind in_operator = Some truth
binary_kind contains_operator = Some truth
binary_kind contains_all_operator = Some truth
binary_kind contains_any_operator = Some truth
binary_kind get_tag_operator = None
binary_kind has_tag_operator = Some truth

-- the kind of all values that the expression can mean, if its text shows it
abbrev pub kind_shown : Term → Option Kind
kind_shown (literal l) = Some (literal_kind l)
kind_shown (variable v) = Some (variable_kind v)
kind_shown (slot s) = Some entity
kind_shown (unknown n t) = None
kind_shown (if_then_else c a b) = None
kind_shown (both a b) = Some truth
kind_shown (either a b) = Some truth
kind_shown (unary op a) = Some (unary_kind op)
kind_shown (binary op a b) = binary_kind op
kind_shown (call f ts) = None
kind_shown (get_attribute a k) = None
kind_shown (has_attribute a k) = Some truth
kind_shown (extended_has a k ks) = Some truth
kind_shown (like a p) = Some truth
kind_shown (is_of_type a t) = Some truth
kind_shown (set_of ts) = Some set
kind_shown (record_of fs) = Some record_kind

-- ---- the kinds that an operator takes

abbrev pub is_truth : Kind → Bool
is_truth truth = true
is_truth number = false
is_truth text = false
is_truth entity = false
is_truth set = false
is_truth record_kind = false

abbrev pub is_number : Kind → Bool
is_number truth = false
is_number number = true
is_number text = false
is_number entity = false
is_number set = false
is_number record_kind = false

abbrev pub is_text : Kind → Bool
is_text truth = false
is_text number = false
is_text text = true
is_text entity = false
is_text set = false
is_text record_kind = false

abbrev pub is_entity : Kind → Bool
is_entity truth = false
is_entity number = false
is_entity text = false
is_entity entity = true
is_entity set = false
is_entity record_kind = false

abbrev pub is_set : Kind → Bool
is_set truth = false
is_set number = false
is_set text = false
is_set entity = false
is_set set = true
is_set record_kind = false

-- an entity, or a set of them
abbrev pub is_right_of_in : Kind → Bool
is_right_of_in k = is_entity k || is_set k

-- an entity or a record
abbrev pub has_attributes : Kind → Bool
has_attributes truth = false
has_attributes number = false
has_attributes text = false
has_attributes entity = true
has_attributes set = false
has_attributes record_kind = true

abbrev pub takes : UnaryOperator → Kind → Bool
takes not_operator k = is_truth k
takes neg_operator k = is_number k
takes is_empty_operator k = is_set k

-- on the left of the operator
abbrev pub takes_first : BinaryOperator → Kind → Bool
takes_first eq_operator k = true
takes_first less_operator k = is_number k
takes_first less_eq_operator k = is_number k
takes_first add_operator k = is_number k
takes_first sub_operator k = is_number k
takes_first mul_operator k = is_number k
takes_first in_operator k = is_entity k
takes_first contains_operator k = is_set k
takes_first contains_all_operator k = is_set k
takes_first contains_any_operator k = is_set k
takes_first get_tag_operator k = is_entity k
takes_first has_tag_operator k = is_entity k

-- on its right
abbrev pub takes_second : BinaryOperator → Kind → Bool
takes_second eq_operator k = true
takes_second less_operator k = is_number k
takes_second less_eq_operator k = is_number k
takes_second add_operator k = is_number k
takes_second sub_operator k = is_number k
takes_second mul_operator k = is_number k
takes_second in_operator k = is_right_of_in k
takes_second contains_operator k = true
takes_second contains_all_operator k = is_set k
takes_second contains_any_operator k = is_set k
takes_second get_tag_operator k = is_text k
takes_second has_tag_operator k = is_text k

-- whether a kind is shown, and is not taken
abbrev pub is_wrong : (Kind → Bool) → Option Kind → Bool
is_wrong takes_it None = false
is_wrong takes_it (Some k) = not (takes_it k)

-- ---- for private clauses

abbrev pub kind_view : kinds.Kind → Kind
kind_view variants.Truth = truth
kind_view variants.Number = number
kind_view variants.Text = text
kind_view variants.Entity = entity
kind_view variants.Set = set
kind_view variants.Record = record_kind
