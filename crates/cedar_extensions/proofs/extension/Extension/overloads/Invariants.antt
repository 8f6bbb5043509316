use Rattle.std.proofs.Common.{◌≡◌, length, map}
use Rattle.cedar_model.specs.Outcomes.{has_text}
use Rattle.cedar_names.specs.Names.{name_text}
use Rattle.cedar_extensions.specs.Extension.{overloading_types}
use Rattle.cedar_extensions.proofs.extension.Extension.overloads.Given as goal

abbrev pub invariant-types : goal.invariant-types
invariant-types g l =
    has_text (name_text l.name) (map name_text (overloading_types l.self))
    ≡ has_text (name_text l.name) (map name_text l.rest)

abbrev pub decreases-types : goal.decreases-types
decreases-types g l = length l.rest
