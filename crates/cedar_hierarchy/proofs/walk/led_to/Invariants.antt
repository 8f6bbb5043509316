use Rattle.std.proofs.Common.{◌-◌, length, map}
use Rattle.cedar_names.specs.Names.{uid_name}
use Rattle.cedar_hierarchy.specs.Listed.{listed_parents, HoldsTheSame}
use Rattle.cedar_hierarchy.proofs.Listing.{all_listed}
use Rattle.cedar_hierarchy.proofs.Walking.{HasFound}
use Rattle.cedar_hierarchy.proofs.walk.led_to.Given as goal

abbrev pub invariant-walk : goal.invariant-walk
invariant-walk l = record {
  same : HoldsTheSame l.reached.keys l.found.items;
  walked : HasFound (listed_parents l.parents.entries) (uid_name l.uid) l.done (map uid_name l.found.items);
}

abbrev pub decreases-walk : goal.decreases-walk
decreases-walk l = length (all_listed l.parents.entries) - l.done
