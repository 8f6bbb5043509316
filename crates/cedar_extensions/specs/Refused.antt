-- Why extensions are refused, and functions not found.
use Rattle.std.specs.Prelude.{◌≡◌, Bool, false, List, map, Option, None, Some, option_map, is_some}
use Rattle.std.specs.List.{find}
use Rattle.std.specs.Option.{option_or}
use Rattle.std.specs.Borrow.{Bor}
use Rattle.cedar_model.specs.Terms.{extension_type, Text}
use Rattle.cedar_model.specs.Outcomes.{has_text}
use Rattle.cedar_model.specs.Refusals.{first_repeated}
use Rattle.cedar_names.specs.declared.names.Name.{Name}
use Rattle.cedar_names.specs.Names.{name_text, name_loc}
use Rattle.cedar_names.specs.Leaves.{type_view}
use Rattle.cedar_errors.specs.declared.extensions.ExtensionFunctionLookupError.{ExtensionFunctionLookupError}
use Rattle.cedar_errors.specs.declared.extensions.ExtensionFunctionLookupError.TheVariants as lookups
use Rattle.cedar_extensions.specs.declared.errors.ExtensionInitializationError.{ExtensionInitializationError}
use Rattle.cedar_extensions.specs.declared.errors.ExtensionInitializationError.TheVariants as errors
use Rattle.cedar_extensions.specs.declared.extension.Extension.{Extension}
use Rattle.cedar_extensions.specs.declared.function.ExtensionFunction.{ExtensionFunction}
use Rattle.cedar_extensions.specs.declared.util.CollectError.{CollectError}
use Rattle.cedar_extensions.specs.Collected.{duplicate}
use Rattle.cedar_extensions.specs.Extension.{all_functions, all_overloading_types}
use Rattle.cedar_extensions.specs.Functions.{function_text, function_names, constructed_type, constructed_types}
use Rattle.cedar_standard_functions.specs.Kinds.{standard_types}
use Rattle.cedar_standard_functions.specs.Standard.{standard_named}

-- the first duplicate name of these functions
abbrev pub repeated_name : {X : Type 0} {F : X → Type 0} {g : _} → List (ExtensionFunction X F g) → Option Text
repeated_name fs = first_repeated (map name_text (function_names fs))

-- the first extension type that two of these functions make values of, each of exactly one text
abbrev pub repeated_type : {X : Type 0} {F : X → Type 0} {g : _} → List (ExtensionFunction X F g) → Option Text
repeated_type fs = first_repeated (map name_text (constructed_types fs))

-- the text of the name that an error of collecting names has
abbrev pub repeated_text : CollectError (Bor Name) → Option Text
repeated_text e = option_map (λ k. name_text k.now) (duplicate e)

-- the error says that this name is a duplicate
abbrev pub IsNameRefused : Option Text → ExtensionInitializationError → Type 0
IsNameRefused o (errors.FuncMultiplyDefined e) = o ≡ Some (name_text e.name)
IsNameRefused o (errors.MultipleConstructorsSameSignature e) = ⊥
IsNameRefused o (errors.StandardTypeOverloaded e) = ⊥
IsNameRefused o (errors.Memory e) = Unit {0}

-- the error says that this extension type is a duplicate
abbrev pub IsTypeRefused : Option Text → ExtensionInitializationError → Type 0
IsTypeRefused o (errors.FuncMultiplyDefined e) = ⊥
IsTypeRefused o (errors.MultipleConstructorsSameSignature e) =
    option_map extension_type o ≡ Some (type_view e.return_type.value)
IsTypeRefused o (errors.StandardTypeOverloaded e) = ⊥
IsTypeRefused o (errors.Memory e) = Unit {0}

-- the error says that an extension overloads this standard type
abbrev pub IsOverloadRefused : Option Text → ExtensionInitializationError → Type 0
IsOverloadRefused o (errors.FuncMultiplyDefined e) = ⊥
IsOverloadRefused o (errors.MultipleConstructorsSameSignature e) = ⊥
IsOverloadRefused o (errors.StandardTypeOverloaded e) = o ≡ Some (name_text e.name)
IsOverloadRefused o (errors.Memory e) = Unit {0}

-- the error says why these functions can't be used together: a name is a duplicate, or else an extension type is
abbrev pub IsWhyRefused : {X : Type 0} {F : X → Type 0} {g : _} → List (ExtensionFunction X F g)
    → ExtensionInitializationError
    → Type 0
IsWhyRefused fs (errors.FuncMultiplyDefined e) = IsNameRefused (repeated_name fs) (errors.FuncMultiplyDefined e)
IsWhyRefused fs (errors.MultipleConstructorsSameSignature e) =
    (repeated_name fs ≡ None) × IsTypeRefused (repeated_type fs) (errors.MultipleConstructorsSameSignature e)
IsWhyRefused fs (errors.StandardTypeOverloaded e) = ⊥
IsWhyRefused fs (errors.Memory e) = Unit {0}

-- ---- beside the standard extensions

-- a standard function has its name
abbrev pub has_standard_name : {X : Type 0} {F : X → Type 0} {g : _} → ExtensionFunction X F g → Bool
has_standard_name f = is_some (standard_named (function_text f))

-- a standard extension has the type of this name
abbrev pub is_standard : Name → Bool
is_standard n = has_text (name_text n) standard_types

abbrev pub is_some_standard : Option Name → Bool
is_some_standard None = false
is_some_standard (Some n) = is_standard n

-- it makes values of a standard type, each of exactly one text
abbrev pub makes_standard : {X : Type 0} {F : X → Type 0} {g : _} → ExtensionFunction X F g → Bool
makes_standard f = is_some_standard (constructed_type f)

-- the extension type that a function makes values of
abbrev pub type_made : {X : Type 0} {F : X → Type 0} {g : _} → Option (ExtensionFunction X F g) → Option Text
type_made None = None
type_made (Some f) = option_map name_text (constructed_type f)

-- the first of these functions' names that a standard function has
abbrev pub standard_name : {X : Type 0} {F : X → Type 0} {g : _} → List (ExtensionFunction X F g) → Option Text
standard_name fs = option_map function_text (find has_standard_name fs)

-- the first standard type that one of these functions makes values of, each of exactly one text
abbrev pub standard_type : {X : Type 0} {F : X → Type 0} {g : _} → List (ExtensionFunction X F g) → Option Text
standard_type fs = type_made (find makes_standard fs)

-- the first standard type of which these extensions say that `<` compares its values
abbrev pub standard_overload : {X : Type 0} {F : X → Type 0} {g : _} → List (Extension X F g) → Option Text
standard_overload es = option_map name_text (find is_standard (all_overloading_types es))

-- the first name of these functions that a standard function has, or else that is a duplicate
abbrev pub name_taken : {X : Type 0} {F : X → Type 0} {g : _} → List (ExtensionFunction X F g) → Option Text
name_taken fs = option_or (standard_name fs) (repeated_name fs)

-- the first such extension type
abbrev pub type_taken : {X : Type 0} {F : X → Type 0} {g : _} → List (ExtensionFunction X F g) → Option Text
type_taken fs = option_or (standard_type fs) (repeated_type fs)

-- the error says why these extensions can't be used beside the standard ones: a name is taken, or else a type, or else
-- a standard type is overloaded
abbrev pub IsWhyRefusedBeside : {X : Type 0} {F : X → Type 0} {g : _} → List (Extension X F g)
    → ExtensionInitializationError
    → Type 0
IsWhyRefusedBeside es (errors.FuncMultiplyDefined e) =
    IsNameRefused (name_taken (all_functions es)) (errors.FuncMultiplyDefined e)
IsWhyRefusedBeside es (errors.MultipleConstructorsSameSignature e) =
    (name_taken (all_functions es) ≡ None)
    × IsTypeRefused (type_taken (all_functions es)) (errors.MultipleConstructorsSameSignature e)
IsWhyRefusedBeside es (errors.StandardTypeOverloaded e) =
    (name_taken (all_functions es) ≡ None) × (type_taken (all_functions es) ≡ None)
    × IsOverloadRefused (standard_overload es) (errors.StandardTypeOverloaded e)
IsWhyRefusedBeside es (errors.Memory e) = Unit {0}

-- the error says that there is no function of this name, at the name's location
abbrev pub IsMissing : Name → ExtensionFunctionLookupError → Type 0
IsMissing n (lookups.FuncDoesNotExist e) = (name_text e.name ≡ name_text n) × (e.source_loc ≡ name_loc n)
IsMissing n (lookups.Memory e) = Unit {0}
