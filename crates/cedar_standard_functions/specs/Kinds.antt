-- The types of what standard functions take and answer.
use Rattle.std.specs.Prelude.{List, [], ◌∷◌, codes}
use Rattle.cedar_model.specs.Terms.{Text, ValueType, bool_type, long_type, string_type, extension_type}
use Rattle.cedar_standard_functions.specs.declared.kind.Kind.{Kind}
use Rattle.cedar_standard_functions.specs.declared.kind.Kind.TheVariants as kinds

abbrev pub decimal_type : ValueType
decimal_type = extension_type (codes "decimal")

abbrev pub ipaddr_type : ValueType
ipaddr_type = extension_type (codes "ipaddr")

abbrev pub datetime_type : ValueType
datetime_type = extension_type (codes "datetime")

abbrev pub duration_type : ValueType
duration_type = extension_type (codes "duration")

abbrev pub kind_type : Kind → ValueType
kind_type kinds.Bool = bool_type
kind_type kinds.Long = long_type
kind_type kinds.String = string_type
kind_type kinds.Decimal = decimal_type
kind_type kinds.Ipaddr = ipaddr_type
kind_type kinds.Datetime = datetime_type
kind_type kinds.Duration = duration_type

-- the types whose values `<` and `<=` compare
abbrev pub overloaded : List Text
overloaded = codes "datetime" ∷ codes "duration" ∷ []

-- the types of the standard extensions
abbrev pub standard_types : List Text
standard_types = codes "decimal" ∷ codes "ipaddr" ∷ codes "datetime" ∷ codes "duration" ∷ []
