use Rattle.std.proofs.Common.{◌≡◌, drop}
use Rattle.cedar_hierarchy.specs.Sorting.{named_in, no_name, with_name_of_each}
use Rattle.cedar_hierarchy.proofs.partial.uids_of.Given as goal

abbrev pub invariant-entities : goal.invariant-entities
invariant-entities l =
    with_name_of_each (named_in l.uids.keys) (drop l.entity-index l.entities.items) ≡ with_name_of_each no_name l.entities.items
