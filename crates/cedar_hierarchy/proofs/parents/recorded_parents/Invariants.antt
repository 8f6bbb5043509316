use Rattle.std.proofs.Common.{◌≡◌, drop}
use Rattle.cedar_hierarchy.specs.Listed.{listed_parents, parents_with_each}
use Rattle.cedar_hierarchy.proofs.Listing.{no_parents}
use Rattle.cedar_hierarchy.proofs.parents.recorded_parents.Given as goal

abbrev pub invariant-entities : goal.invariant-entities
invariant-entities l =
    parents_with_each (listed_parents l.parents.entries) (drop l.entity-index l.entities.items) ≡ parents_with_each no_parents l.entities.items
