use Rattle.std.proofs.Common.{map}
use Rattle.cedar_names.specs.Names.{uid_name}
use Rattle.cedar_layers.specs.Stores.{stored_entity}
use Rattle.cedar_hierarchy.specs.Sorting.{named_in}
use Rattle.cedar_overlay.proofs.Checked.{AreLookedUp}
use Rattle.cedar_overlay.proofs.checks.not_there.Given as goal

abbrev pub invariant-uids : goal.invariant-uids
invariant-uids l =
    AreLookedUp (stored_entity l.entities) (named_in l.names.keys) (map uid_name l.uids.keys) (map uid_name l.uid-iterator)
