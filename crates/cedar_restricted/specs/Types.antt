-- The types of restricted expressions.
use Rattle.std.specs.Prelude.{Option, Some, None, option_map}
use Rattle.std.specs.Option.{option_or}
use Rattle.cedar_model.specs.Terms.{Text, bool_type, long_type, string_type, set_type, record_type}
use Rattle.cedar_model.specs.Terms.{entity_type, ValueType, Literal, bool_literal, long_literal, text_literal}
use Rattle.cedar_model.specs.Terms.{entity_literal, Term, literal, unknown}
use Rattle.cedar_model.specs.Terms.{call, set_of, record_of}
use Rattle.cedar_names.specs.Leaves.{type_view}
use Rattle.cedar_extensions.specs.declared.extensions.Extensions.{Extensions}
use Rattle.cedar_extensions.specs.declared.function.ExtensionFunction.{ExtensionFunction}
use Rattle.cedar_extensions.specs.Extensions.{standard_of, func_of}
use Rattle.cedar_standard_functions.specs.Standard.{returns}
use Rattle.cedar_extensions.specs.Functions.{function_returns}

abbrev pub literal_type : Literal → ValueType
literal_type (bool_literal b) = bool_type
literal_type (long_literal n) = long_type
literal_type (text_literal t) = string_type
literal_type (entity_literal e) = entity_type e.type_name

-- the type of a restricted expression, as far as it is known before it is evaluated, where functions return values of
-- these types
abbrev pub type_in : (Text → Option ValueType) → Term → Option ValueType
type_in returned (literal l) = Some (literal_type l)
type_in returned (unknown n t) = t
type_in returned (set_of ts) = Some set_type
type_in returned (record_of fs) = Some record_type
type_in returned (call f ts) = returned f
type_in returned t = None

-- the type that a function which the caller made returns, if there is one and the type is known
abbrev pub made_type : {X : Type 0} {F : X → Type 0} {g : _} → Option (ExtensionFunction X F g) → Option ValueType
made_type None = None
made_type (Some f) = option_map type_view (function_returns f)

-- the types that functions return, a standard one first
abbrev pub return_types : {X : Type 0} {F : X → Type 0} {g : _} → Extensions X F g → Text → Option ValueType
return_types x n = option_or (option_map returns (standard_of x n)) (made_type (func_of x n))
