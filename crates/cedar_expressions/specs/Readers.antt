-- The term of an unknown, and that a term is no literal, no variable or no unknown.
use Rattle.std.specs.Prelude.{◌≢◌, Option, option_map}
use Rattle.std.specs.Rc.{rc_str_bytes}
use Rattle.cedar_model.specs.Terms.{Term, Text, Literal, Variable, ValueType, literal, variable, unknown}
use Rattle.cedar_names.specs.declared.types.Unknown.{Unknown}
use Rattle.cedar_names.specs.Leaves.{type_view}

-- the term of an unknown
abbrev pub unknown_term : Unknown → Term
unknown_term u = unknown (rc_str_bytes u.name) (option_map type_view u.type_annotation)

-- the term is no literal
abbrev pub IsNoLiteral : Term → Type 0
IsNoLiteral t = (l : Literal) → t ≢ literal l

-- the term is no variable
abbrev pub IsNoVariable : Term → Type 0
IsNoVariable t = (v : Variable) → t ≢ variable v

-- the term is no unknown
abbrev pub IsNoUnknown : Term → Type 0
IsNoUnknown t = (n : Text) (ty : Option ValueType) → t ≢ unknown n ty
