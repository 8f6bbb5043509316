use Rattle.std.proofs.Common.{◌≡◌, length, map}
use Rattle.cedar_model.specs.Outcomes.{has_text}
use Rattle.cedar_names.specs.Names.{name_text}
use Rattle.cedar_extensions.specs.Extension.{all_overloading_types}
use Rattle.cedar_extensions.specs.Extensions.{extensions_in}
use Rattle.cedar_extensions.proofs.extensions.Extensions.made_overloads.Given as goal

abbrev pub invariant-extensions : goal.invariant-extensions
invariant-extensions g l =
    has_text (name_text l.name) (map name_text (all_overloading_types (extensions_in l.self)))
    ≡ has_text (name_text l.name) (map name_text (all_overloading_types l.rest))

abbrev pub decreases-extensions : goal.decreases-extensions
decreases-extensions g l = length l.rest
