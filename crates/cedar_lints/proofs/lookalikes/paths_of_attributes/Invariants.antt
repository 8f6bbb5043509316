use Rattle.std.proofs.Common.{◌≡◌, ◌++◌, map}
use Rattle.std.specs.Rc.{rc_str_bytes}
use Rattle.cedar_layers.specs.Stores.{entity_view}
use Rattle.cedar_lints.specs.Lookalikes.{named_paths, paths_under}
use Rattle.cedar_lints.specs.Paths.{paths_view}
use Rattle.cedar_lints.proofs.lookalikes.paths_of_attributes.Given as goal

-- what is found and what is left are all of it
abbrev pub invariant-names : goal.invariant-names
invariant-names l =
    paths_view l.found.items ++ named_paths (map rc_str_bytes l.name-iterator) (entity_view l.fn.entity).attributes
    ≡ paths_under (entity_view l.fn.entity).attributes
