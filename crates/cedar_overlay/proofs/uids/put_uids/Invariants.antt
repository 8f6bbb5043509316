use Rattle.std.proofs.Common.{◌≡◌, map}
use Rattle.cedar_names.specs.Names.{uid_name}
use Rattle.cedar_hierarchy.specs.Sorting.{named_in}
use Rattle.cedar_overlay.specs.Adding.{with_names}
use Rattle.cedar_overlay.proofs.uids.put_uids.Given as goal

abbrev pub invariant-uids : goal.invariant-uids
invariant-uids l =
    with_names (named_in l.uids.keys) (map uid_name l.uid-iterator) ≡ with_names (named_in l.fn.uids.keys) (map uid_name l.more.keys)
