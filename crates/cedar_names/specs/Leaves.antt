-- What stands in an expression besides expressions, as plain data.
use Rattle.std.specs.Prelude.{◌≡◌, List, map, option_map}
use Rattle.std.specs.Rc.{rc_str_bytes}
use Rattle.std.specs.declared.alloc.Global.{Global}
use Rattle.std.specs.declared.rc.RcStr.{RcStr}
use Rattle.cedar_model.specs.Terms.{Text, ValueType, bool_type, long_type, string_type, set_type, record_type, entity_type, extension_type, bool_literal, long_literal, text_literal, entity_literal, PatternPart, character, wildcard}
use Rattle.cedar_model.specs.Terms as model
use Rattle.cedar_names.specs.declared.names.SlotId.TheVariants as slots
use Rattle.cedar_names.specs.declared.names.SlotId.{SlotId}
use Rattle.cedar_names.specs.declared.names.Var.TheVariants as variables
use Rattle.cedar_names.specs.declared.names.Var.{Var}
use Rattle.cedar_names.specs.declared.operators.UnaryOp.{UnaryOp}
use Rattle.cedar_names.specs.declared.operators.UnaryOp.TheVariants.{Not, Neg, IsEmpty}
use Rattle.cedar_names.specs.declared.operators.BinaryOp.{BinaryOp}
use Rattle.cedar_names.specs.declared.operators.BinaryOp.TheVariants.{Eq, Less, LessEq, Add, Sub, Mul, In, Contains, ContainsAll, ContainsAny, GetTag, HasTag}
use Rattle.cedar_names.specs.declared.pattern.PatternElem.{PatternElem}
use Rattle.cedar_names.specs.declared.pattern.PatternElem.TheVariants.{Char, Wildcard}
use Rattle.cedar_names.specs.declared.pattern.Pattern.{Pattern}
use Rattle.cedar_names.specs.declared.types.«Type».{«Type» as RType}
use Rattle.cedar_names.specs.declared.types.«Type».TheVariants as types
use Rattle.cedar_names.specs.declared.types.Unknown as unknowns
use Rattle.cedar_names.specs.declared.types.Literal.{Literal}
use Rattle.cedar_names.specs.declared.types.Literal.TheVariants as literals
use Rattle.cedar_names.specs.Names.{name_text, type_text, uid_name}

abbrev pub slot_view : SlotId → model.Slot
slot_view slots.Principal = model.principal_slot
slot_view slots.Resource = model.resource_slot

abbrev pub variable_view : Var → model.Variable
variable_view variables.Principal = model.principal
variable_view variables.Action = model.action
variable_view variables.Resource = model.resource
variable_view variables.Context = model.context

abbrev pub unary_view : UnaryOp → model.UnaryOperator
unary_view Not = model.not_operator
unary_view Neg = model.neg_operator
unary_view IsEmpty = model.is_empty_operator

abbrev pub binary_view : BinaryOp → model.BinaryOperator
binary_view Eq = model.eq_operator
binary_view Less = model.less_operator
binary_view LessEq = model.less_eq_operator
binary_view Add = model.add_operator
binary_view Sub = model.sub_operator
binary_view Mul = model.mul_operator
binary_view In = model.in_operator
binary_view Contains = model.contains_operator
binary_view ContainsAll = model.contains_all_operator
binary_view ContainsAny = model.contains_any_operator
binary_view GetTag = model.get_tag_operator
binary_view HasTag = model.has_tag_operator

abbrev pub part_view : PatternElem → PatternPart
part_view (Char c) = character c
part_view Wildcard = wildcard

-- the parts of a pattern
abbrev pub pattern_view : Pattern → List PatternPart
pattern_view p = map part_view p.elems.items

abbrev pub type_view : RType → ValueType
type_view types.Bool = bool_type
type_view types.Long = long_type
type_view types.String = string_type
type_view types.Set = set_type
type_view types.Record = record_type
type_view (types.Entity t) = entity_type (type_text t)
type_view (types.Extension n) = extension_type (name_text n)

-- unknowns of one name and of one annotation
abbrev pub AreOneUnknown : unknowns.Unknown → unknowns.Unknown → Type 0
AreOneUnknown a b =
    (rc_str_bytes a.name ≡ rc_str_bytes b.name) × (option_map type_view a.type_annotation ≡ option_map type_view b.type_annotation)

abbrev pub literal_view : Literal → model.Literal
literal_view (literals.Bool b) = bool_literal b
literal_view (literals.Long z) = long_literal z
literal_view (literals.String s) = text_literal (rc_str_bytes s)
literal_view (literals.EntityUID u) = entity_literal (uid_name u.value)

-- the texts of a list
abbrev pub texts_view : List (RcStr Global) → List Text
texts_view = map rc_str_bytes
