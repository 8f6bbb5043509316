use Rattle.std.proofs.Common.{◌≡◌, map, drop}
use Rattle.cedar_names.specs.Names.{uid_name}
use Rattle.cedar_hierarchy.specs.Walks.{marked_each}
use Rattle.cedar_hierarchy.specs.Listed.{HoldsTheSame}
use Rattle.cedar_hierarchy.proofs.walk.mark_each.Given as goal

abbrev pub invariant-uids : goal.invariant-uids
invariant-uids l = record {
  same : HoldsTheSame l.reached.keys l.found.items;
  left : marked_each (map uid_name (drop l.uid-index l.uid-items)) (map uid_name l.found.items) ≡ marked_each (map uid_name l.fn.uids.items) (map uid_name l.fn.found.items);
}
