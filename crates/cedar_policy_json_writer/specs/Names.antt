-- Operators and types by their names in Cedar's JSON of policies.
use Rattle.std.specs.Prelude.{codes}
use Rattle.json.specs.Json.{Json, string}
use Rattle.cedar_model.specs.Terms.{Text, UnaryOperator, not_operator, neg_operator, is_empty_operator}
use Rattle.cedar_model.specs.Terms.{BinaryOperator, eq_operator, less_operator, less_eq_operator, add_operator}
use Rattle.cedar_model.specs.Terms.{sub_operator, mul_operator, in_operator, contains_operator, contains_all_operator}
use Rattle.cedar_model.specs.Terms.{contains_any_operator, get_tag_operator, has_tag_operator}
use Rattle.cedar_model.specs.Terms.{ValueType, bool_type, long_type, string_type, set_type, record_type, entity_type}
use Rattle.cedar_model.specs.Terms.{extension_type}
use Rattle.cedar_json_writer.specs.Written.{sole_member, two_members}

abbrev pub unary_name : UnaryOperator → Text
unary_name not_operator = codes "!"
unary_name neg_operator = codes "neg"
unary_name is_empty_operator = codes "isEmpty"

abbrev pub binary_name : BinaryOperator → Text
binary_name eq_operator = codes "=="
binary_name less_operator = codes "<"
binary_name less_eq_operator = codes "<="
binary_name add_operator = codes "+"
binary_name sub_operator = codes "-"
binary_name mul_operator = codes "*"
binary_name in_operator = codes "in"
binary_name contains_operator = codes "contains"
binary_name contains_all_operator = codes "containsAll"
binary_name contains_any_operator = codes "containsAny"
binary_name get_tag_operator = codes "getTag"
binary_name has_tag_operator = codes "hasTag"

-- ---- types, as Cedar's JSON of schemas writes them, without what is in a set or a record

abbrev pub plain_type : Text → Json
plain_type kind = sole_member (codes "type") (string kind)

-- the type of entities, or of values of an extension, of this name
abbrev pub named_type : Text → Text → Json
named_type kind name = two_members (codes "type") (string kind) (codes "name") (string name)

abbrev pub type_json : ValueType → Json
type_json bool_type = plain_type (codes "Boolean")
type_json long_type = plain_type (codes "Long")
type_json string_type = plain_type (codes "String")
type_json set_type = plain_type (codes "Set")
type_json record_type = plain_type (codes "Record")
type_json (entity_type name) = named_type (codes "Entity") name
type_json (extension_type name) = named_type (codes "Extension") name
