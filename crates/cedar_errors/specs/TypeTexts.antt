-- The texts of type errors, of types as errors hold them.
use Rattle.std.specs.Prelude.{map}
use Rattle.cedar_model.specs.Terms.{Text}
use Rattle.cedar_names.specs.declared.types.FirstRest.{FirstRest}
use Rattle.cedar_names.specs.declared.types.Type as types
use Rattle.cedar_names.specs.Leaves.{type_view}
use Rattle.cedar_errors.specs.Texts.{expected_text, type_error_text}

-- the types that a place takes
abbrev pub types_text : FirstRest types.Type → Text
types_text ts = expected_text (type_view ts.first) (map type_view ts.rest.items)

-- a value of another type than its place takes: the types that it takes, and the value's
abbrev pub wrong_type_text : FirstRest types.Type → types.Type → Text
wrong_type_text ts actual = type_error_text (type_view ts.first) (map type_view ts.rest.items) (type_view actual)
