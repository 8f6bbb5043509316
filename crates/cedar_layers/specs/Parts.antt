-- Stored attributes and tags as plain data.
use Rattle.std.specs.Prelude.{Bool, true, ◌&&◌, List, [], ◌∷◌, map, Option, option_map}
use Rattle.std.specs.Cmp.Lexicographic.{slice_cmp}
use Rattle.std.specs.Map.{lookup}
use Rattle.std.specs.Ordering.{is_eq, nat_cmp}
use Rattle.std.specs.Rc.{rc_str_bytes}
use Rattle.std.specs.declared.alloc.Global.{Global}
use Rattle.std.specs.declared.rc.RcStr.{RcStr}
use Rattle.cedar_model.specs.Terms.{Text}
use Rattle.cedar_model.specs.Shapes.{is_restricted}
use Rattle.cedar_model.specs.Failures as model
use Rattle.cedar_values.specs.declared.partial_value.PartialValue.{PartialValue}
use Rattle.cedar_values.specs.declared.partial_value.PartialValue.TheVariants as partials
use Rattle.cedar_values.specs.Residuals.{partial_view}
use Rattle.cedar_values.specs.Sound.{Placed}

-- the parts under their names
abbrev pub parts_view : List (RcStr Global × PartialValue) → List (Text × model.PartialValue)
parts_view es = map (λ e. (rc_str_bytes e.0, partial_view e.1)) es

-- the values as parts, under the same names
abbrev pub values_as_parts : List (RcStr Global × Placed) → List (RcStr Global × PartialValue)
values_as_parts [] = []
values_as_parts (e ∷ es) = (e.0, partials.Value e.1) ∷ values_as_parts es

-- the part under this name, with its place
abbrev pub part_under : Text → List (RcStr Global × PartialValue) → Option PartialValue
part_under t es = lookup (λ (k : RcStr Global). is_eq (slice_cmp nat_cmp t (rc_str_bytes k))) es

-- the part that was found, as plain data
abbrev pub found_part : Option PartialValue → Option model.PartialValue
found_part p = option_map partial_view p

-- whether a part is a value or a restricted expression
abbrev pub is_restricted_part : model.PartialValue → Bool
is_restricted_part (model.value v) = true
is_restricted_part (model.residual t) = is_restricted t

abbrev pub are_restricted_parts : List (Text × model.PartialValue) → Bool
are_restricted_parts [] = true
are_restricted_parts (p ∷ ps) = is_restricted_part p.1 && are_restricted_parts ps
