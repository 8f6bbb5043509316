-- An extension as plain data, and several.
use Rattle.std.specs.Prelude.{List, map}
use Rattle.std.specs.List.{flat_map}
use Rattle.cedar_model.specs.Terms.{ValueType, extension_type}
use Rattle.cedar_names.specs.declared.names.Name.{Name}
use Rattle.cedar_names.specs.Names.{name_text}
use Rattle.cedar_extensions.specs.declared.extension.Extension.{Extension}
use Rattle.cedar_extensions.specs.declared.function.ExtensionFunction.{ExtensionFunction}

abbrev pub name_of : {X : Type 0} {F : X → Type 0} {g : _} → Extension X F g → Name
name_of e = e.name

abbrev pub functions_of : {X : Type 0} {F : X → Type 0} {g : _} → Extension X F g → List (ExtensionFunction X F g)
functions_of e = e.functions.items

-- the types whose values `<` compares
abbrev pub overloading_types : {X : Type 0} {F : X → Type 0} {g : _} → Extension X F g → List Name
overloading_types e = e.types_with_operator_overloading.items

-- all functions, extensions in order
abbrev pub all_functions : {X : Type 0} {F : X → Type 0} {g : _} → List (Extension X F g)
    → List (ExtensionFunction X F g)
all_functions es = flat_map functions_of es

-- all types whose values `<` compares, extensions in order
abbrev pub all_overloading_types : {X : Type 0} {F : X → Type 0} {g : _} → List (Extension X F g) → List Name
all_overloading_types es = flat_map overloading_types es

-- the types of these names
abbrev pub types_named : List Name → List ValueType
types_named ns = map extension_type (map name_text ns)
