use Rattle.std.proofs.Common.{◌≡◌, ◌++◌, length, map}
use Rattle.cedar_model.specs.Terms.{extension_type}
use Rattle.cedar_names.specs.Names.{name_text}
use Rattle.cedar_names.specs.Leaves.{type_view}
use Rattle.cedar_extensions.specs.Extension.{all_overloading_types}
use Rattle.cedar_extensions.specs.Extensions.{extensions_view}
use Rattle.cedar_extensions.proofs.extensions.Extensions.overloaded_types.Given as goal

abbrev pub invariant-extensions : goal.invariant-extensions
invariant-extensions g l =
    map type_view l.types.items ++ map extension_type (map name_text (all_overloading_types l.rest))
    ≡ map extension_type (extensions_view l.self).overloaded

abbrev pub decreases-extensions : goal.decreases-extensions
decreases-extensions g l = length l.rest
