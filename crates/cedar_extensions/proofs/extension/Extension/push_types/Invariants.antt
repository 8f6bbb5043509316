use Rattle.std.proofs.Common.{◌≡◌, ◌++◌, length, map}
use Rattle.cedar_model.specs.Terms.{extension_type}
use Rattle.cedar_names.specs.Names.{name_text}
use Rattle.cedar_names.specs.Leaves.{type_view}
use Rattle.cedar_extensions.specs.Extension.{overloading_types}
use Rattle.cedar_extensions.proofs.extension.Extension.push_types.Given as goal

abbrev pub invariant-types : goal.invariant-types
invariant-types g l =
    map type_view l.types.items ++ map extension_type (map name_text l.rest)
    ≡ map type_view l.fn.types.items ++ map extension_type (map name_text (overloading_types l.self))

abbrev pub decreases-types : goal.decreases-types
decreases-types g l = length l.rest
