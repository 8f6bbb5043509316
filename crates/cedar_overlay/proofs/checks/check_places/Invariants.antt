use Rattle.std.proofs.Common.{take}
use Rattle.std.specs.List.{All}
use Rattle.cedar_layers.specs.Stores.{stored_entity}
use Rattle.cedar_hierarchy.specs.Sorting.{named_in}
use Rattle.cedar_overlay.specs.Bases.{base_entities}
use Rattle.cedar_overlay.specs.Adding.{HasItsPlace}
use Rattle.cedar_overlay.proofs.checks.check_places.Given as goal

abbrev pub invariant-brought : goal.invariant-brought
invariant-brought l =
    All (HasItsPlace (stored_entity (base_entities l.base)) (named_in l.names.keys)) (take l.entity-index l.brought.items)
