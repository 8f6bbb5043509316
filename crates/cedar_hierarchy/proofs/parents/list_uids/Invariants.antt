use Rattle.std.proofs.Common.{◌≡◌, ◌++◌, map}
use Rattle.cedar_names.specs.Names.{uid_name}
use Rattle.cedar_hierarchy.proofs.parents.list_uids.Given as goal

abbrev pub invariant-uids : goal.invariant-uids
invariant-uids l = map uid_name l.list.items ++ map uid_name l.uid-iterator ≡ map uid_name l.uids.keys
