-- The names of the extensions that a response was made with.
use Rattle.std.specs.Prelude.{Bool, cond, List, [], ◌∷◌, ◌++◌, map, codes}
use Rattle.cedar_model.specs.Terms.{Text}
use Rattle.cedar_names.specs.Names.{name_text}
use Rattle.cedar_extensions.specs.declared.extensions.Extensions.{Extensions}
use Rattle.cedar_extensions.specs.Extension.{name_of}
use Rattle.cedar_extensions.specs.Extensions.{extensions_in, has_standard}

-- the names of the standard extensions, where they are there
abbrev pub standard_names : Bool → List Text
standard_names is_there = cond is_there (codes "decimal" ∷ codes "ipaddr" ∷ codes "datetime" ∷ []) []

-- these, and then those of the extensions that the caller made, in order
abbrev pub names_of : {X : Type 0} {F : X → Type 0} {g : _} → Extensions X F g → List Text
names_of e = standard_names (has_standard e) ++ map name_text (map name_of (extensions_in e))
