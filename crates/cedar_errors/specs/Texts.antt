-- The texts of type errors, in bytes of UTF-8.
use Rattle.std.specs.Prelude.{List, [], ◌∷◌, ◌++◌, codes, flat_map}
use Rattle.cedar_model.specs.Terms.{Text, ValueType}
use Rattle.cedar_names.specs.Texts.{value_type_text}

-- a further type of a list of types
abbrev pub other_text : ValueType → Text
other_text t = codes ", " ++ value_type_text t

-- several types that a place takes
abbrev pub several_text : ValueType → List ValueType → Text
several_text t ts = codes "one of [" ++ (value_type_text t ++ (flat_map other_text ts ++ codes "]"))

-- the types that a place takes
abbrev pub expected_text : ValueType → List ValueType → Text
expected_text t [] = value_type_text t
expected_text t (u ∷ us) = several_text t (u ∷ us)

-- a value of another type than its place takes: the types that it takes, and the value's
abbrev pub type_error_text : ValueType → List ValueType → ValueType → Text
type_error_text t ts actual =
    codes "type error: expected " ++ (expected_text t ts ++ (codes ", got " ++ value_type_text actual))
