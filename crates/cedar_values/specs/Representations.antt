-- What an extension value is seen as.
use Rattle.std.specs.Prelude.{◌≡◌, Option, List}
use Rattle.cedar_model.specs.Terms.{Text, Term, Terms, call}
use Rattle.cedar_model.specs.Values.{Represented, extension_represented}
use Rattle.cedar_values.specs.declared.extension_value.ExtensionValue.{ExtensionValue}
use Rattle.cedar_values.specs.declared.extension_value.Representation.{Representation}
use Rattle.cedar_names.specs.declared.names.Loc.{Loc}
use Rattle.cedar_names.specs.Names.{name_text, name_loc}
use Rattle.cedar_expressions.specs.declared.expr.Expr.{Expr}
use Rattle.cedar_expressions.specs.View.{terms_view}

-- the function that a representation calls
abbrev pub function_of : Representation → Text
function_of r = name_text r.fn_name

-- where it names the function
abbrev pub function_loc : Representation → Option Loc
function_loc r = name_loc r.fn_name

-- the arguments that it calls it on, whole: their locations, and their parts with theirs
abbrev pub whole_arguments : Representation → List Expr
whole_arguments r = r.args.value.items

-- their terms
abbrev pub arguments_of : Representation → Terms
arguments_of r = terms_view (whole_arguments r)

-- the call that it writes
abbrev pub representation_term : Representation → Term
representation_term r = call (function_of r) (arguments_of r)

-- the value with its representation
abbrev pub extension_what : ExtensionValue → Represented
extension_what e =
    extension_represented (name_text e.typename) e.key.items (function_of e.representation) (arguments_of e.representation)

-- a copy of a representation: the same function, named at the same place, on the very arguments
abbrev pub IsRepresentationCopy : Representation → Representation → Type 0
IsRepresentationCopy r copy =
    (function_of copy ≡ function_of r) × (arguments_of copy ≡ arguments_of r) × (function_loc copy ≡ function_loc r) × (whole_arguments copy ≡ whole_arguments r)

-- a copy of an extension value: the same value of the same type, named at the same place, and a copy of its representation
abbrev pub IsExtensionCopy : ExtensionValue → ExtensionValue → Type 0
IsExtensionCopy e copy =
    (extension_what copy ≡ extension_what e) × (name_loc copy.typename ≡ name_loc e.typename) × IsRepresentationCopy e.representation copy.representation
