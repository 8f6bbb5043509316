-- Operators, variables and types by their names in Cedar's JSON of policies.
use Rattle.std.specs.Prelude.{List, if◌then◌else◌, Option, Some, None, bytes_eq, codes}
use Rattle.cedar_model.specs.Terms.{Text, Variable, principal, action, resource, context}
use Rattle.cedar_model.specs.Terms.{UnaryOperator, not_operator, neg_operator, is_empty_operator}
use Rattle.cedar_model.specs.Terms.{BinaryOperator, eq_operator, less_operator, less_eq_operator, add_operator}
use Rattle.cedar_model.specs.Terms.{sub_operator, mul_operator, in_operator, contains_operator, contains_all_operator}
use Rattle.cedar_model.specs.Terms.{contains_any_operator, get_tag_operator, has_tag_operator}
use Rattle.cedar_model.specs.Terms.{Term, both, either, unary, binary}
use Rattle.cedar_model.specs.Terms.{ValueType, bool_type, long_type, string_type, set_type, record_type}
use Rattle.cedar_names.specs.Leaves.{binary_view}
use Rattle.cedar_policy_json_reader.specs.declared.operators.Connection.{Connection}
use Rattle.cedar_policy_json_reader.specs.declared.operators.Connection.TheVariants as connections

abbrev pub or_else : {T : Type 0} → Option T → Option T → Option T
or_else None o = o
or_else (Some t) o = Some t

-- ---- operators on two parts

-- an operator, the negation of one, `&&`, or `||`
pub data TwoPart : Type 0 where
  plain : BinaryOperator → TwoPart
  negated : BinaryOperator → TwoPart
  conjunction : TwoPart
  disjunction : TwoPart

abbrev pub connection_view : Connection → TwoPart
connection_view (connections.Plain op) = plain (binary_view op)
connection_view (connections.Negated op) = negated (binary_view op)
connection_view connections.And = conjunction
connection_view connections.Or = disjunction

abbrev pub two_part_term : TwoPart → Term → Term → Term
two_part_term (plain op) t u = binary op t u
two_part_term (negated op) t u = unary not_operator (binary op t u)
two_part_term conjunction t u = both t u
two_part_term disjunction t u = either t u

-- comparisons: `a != b` is `!(a == b)`, `a > b` is `!(a <= b)`, and `a >= b` is `!(a < b)`
abbrev pub comparison_named : Text → Option TwoPart
comparison_named k =
    if bytes_eq k (codes "==") then Some (plain eq_operator) else (
    if bytes_eq k (codes "!=") then Some (negated eq_operator) else (
    if bytes_eq k (codes "<") then Some (plain less_operator) else (
    if bytes_eq k (codes "<=") then Some (plain less_eq_operator) else (
    if bytes_eq k (codes ">") then Some (negated less_eq_operator) else (
    if bytes_eq k (codes ">=") then Some (negated less_operator) else (
    None))))))

abbrev pub connective_named : Text → Option TwoPart
connective_named k =
    if bytes_eq k (codes "&&") then Some conjunction else (
    if bytes_eq k (codes "||") then Some disjunction else (
    if bytes_eq k (codes "+") then Some (plain add_operator) else (
    if bytes_eq k (codes "-") then Some (plain sub_operator) else (
    if bytes_eq k (codes "*") then Some (plain mul_operator) else (
    if bytes_eq k (codes "in") then Some (plain in_operator) else (
    None))))))

abbrev pub method_named : Text → Option TwoPart
method_named k =
    if bytes_eq k (codes "contains") then Some (plain contains_operator) else (
    if bytes_eq k (codes "containsAll") then Some (plain contains_all_operator) else (
    if bytes_eq k (codes "containsAny") then Some (plain contains_any_operator) else (
    if bytes_eq k (codes "getTag") then Some (plain get_tag_operator) else (
    if bytes_eq k (codes "hasTag") then Some (plain has_tag_operator) else (
    None)))))

abbrev pub two_part_named : Text → Option TwoPart
two_part_named k = or_else (comparison_named k) (or_else (connective_named k) (method_named k))

-- ---- operators on one part

abbrev pub unary_named : Text → Option UnaryOperator
unary_named k =
    if bytes_eq k (codes "!") then Some not_operator else (
    if bytes_eq k (codes "neg") then Some neg_operator else (
    if bytes_eq k (codes "isEmpty") then Some is_empty_operator else (
    None)))

-- ---- variables and types

abbrev pub variable_named : Text → Option Variable
variable_named k =
    if bytes_eq k (codes "principal") then Some principal else (
    if bytes_eq k (codes "action") then Some action else (
    if bytes_eq k (codes "resource") then Some resource else (
    if bytes_eq k (codes "context") then Some context else (
    None))))

-- the types that have no name of their own
abbrev pub type_named : Text → Option ValueType
type_named k =
    if bytes_eq k (codes "Boolean") then Some bool_type else (
    if bytes_eq k (codes "Long") then Some long_type else (
    if bytes_eq k (codes "String") then Some string_type else (
    if bytes_eq k (codes "Set") then Some set_type else (
    if bytes_eq k (codes "Record") then Some record_type else (
    None)))))
