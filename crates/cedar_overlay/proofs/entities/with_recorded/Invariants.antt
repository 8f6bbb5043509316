use Rattle.std.proofs.Common.{◌≡◌, map}
use Rattle.cedar_names.specs.Names.{uid_name}
use Rattle.cedar_layers.specs.Stores.{stored_entity}
use Rattle.cedar_hierarchy.specs.Sorting.{named_in}
use Rattle.cedar_overlay.specs.Adding.{with_recorded}
use Rattle.cedar_overlay.proofs.entities.with_recorded.Given as goal

abbrev pub invariant-uids : goal.invariant-uids
invariant-uids l =
    with_recorded (named_in l.all.keys) (stored_entity l.entities) (map uid_name l.uid-iterator)
    ≡ with_recorded (named_in l.uids.keys) (stored_entity l.entities) (map uid_name l.uids.keys)
