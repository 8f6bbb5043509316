-- Types of arguments and of what functions answer.
use Rattle.std.specs.Prelude.{Bool, true, false, List, [], ◌∷◌, Option, None, Some}
use Rattle.cedar_model.specs.Terms.{ValueType, bool_type, long_type, string_type, set_type, record_type, entity_type}
use Rattle.cedar_model.specs.Terms.{extension_type}
use Rattle.cedar_names.specs.declared.names.Name.{Name}
use Rattle.cedar_names.specs.declared.types.«Type».{«Type» as RType}
use Rattle.cedar_names.specs.declared.types.«Type».TheVariants as types

-- the name of an extension type
abbrev pub extension_name : RType → Option Name
extension_name types.Bool = None
extension_name types.Long = None
extension_name types.String = None
extension_name types.Set = None
extension_name types.Record = None
extension_name (types.Entity t) = None
extension_name (types.Extension n) = Some n

abbrev pub name_in : Option RType → Option Name
name_in None = None
name_in (Some t) = extension_name t

abbrev pub is_string_type : ValueType → Bool
is_string_type bool_type = false
is_string_type long_type = false
is_string_type string_type = true
is_string_type set_type = false
is_string_type record_type = false
is_string_type (entity_type t) = false
is_string_type (extension_type t) = false

-- exactly one text
abbrev pub is_one_text : List ValueType → Bool
is_one_text [] = false
is_one_text (t ∷ []) = is_string_type t
is_one_text (t ∷ (u ∷ ts)) = false
