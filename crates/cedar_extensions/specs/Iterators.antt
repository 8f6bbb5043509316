-- What iterators over extensions have left.
use Rattle.std.specs.Prelude.{List, ◌++◌, map}
use Rattle.std.specs.Borrow.{Bor}
use Rattle.cedar_names.specs.declared.names.Name.{Name}
use Rattle.cedar_extensions.specs.declared.function.ExtensionFunction.{ExtensionFunction}
use Rattle.cedar_extensions.specs.declared.iterators.ExtNames.{ExtNames}
use Rattle.cedar_extensions.specs.declared.iterators.ExtTypes.{ExtTypes}
use Rattle.cedar_extensions.specs.declared.iterators.Functions.{Functions}
use Rattle.cedar_extensions.specs.declared.iterators.FunctionNames.{FunctionNames}
use Rattle.cedar_extensions.specs.declared.iterators.ConstructedTypes.{ConstructedTypes}
use Rattle.cedar_extensions.specs.declared.iterators.OverloadingTypes.{OverloadingTypes}
use Rattle.cedar_extensions.specs.Functions.{function_names, answered_types, constructed_types}
use Rattle.cedar_extensions.specs.Extension.{name_of, all_functions, all_overloading_types}

abbrev pub names_left : {X : Type 0} {F : X → Type 0} {g : _} → ExtNames X F g → List Name
names_left i = map name_of i.extensions.now

abbrev pub functions_left : {X : Type 0} {F : X → Type 0} {g : _} → Functions X F g → List (ExtensionFunction X F g)
functions_left i = i.functions.now ++ all_functions i.extensions.now

abbrev pub types_left : {X : Type 0} {F : X → Type 0} {g : _} → ExtTypes X F g → List Name
types_left i = answered_types (functions_left i.functions)

abbrev pub overloading_left : {X : Type 0} {F : X → Type 0} {g : _} → OverloadingTypes X F g → List Name
overloading_left i = i.names.now ++ all_overloading_types i.extensions.now

abbrev pub function_names_left : {X : Type 0} {F : X → Type 0} {g : _} → FunctionNames X F g → List Name
function_names_left i = function_names (functions_left i.functions)

abbrev pub constructed_left : {X : Type 0} {F : X → Type 0} {g : _} → ConstructedTypes X F g → List Name
constructed_left i = constructed_types (functions_left i.functions)

-- the name that is a key
abbrev pub key_name : Bor Name × Unit {0} → Name
key_name k = k.0.now
