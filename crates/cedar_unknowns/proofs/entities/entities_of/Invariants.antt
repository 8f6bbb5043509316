use Rattle.std.proofs.Common.{◌≡◌, ◌++◌, map, drop}
use Rattle.cedar_names.specs.Names.{uid_name}
use Rattle.cedar_unknowns.specs.Occurrences.{asked_each}
use Rattle.cedar_unknowns.specs.Entities.{entities_asked}
use Rattle.cedar_unknowns.proofs.entities.entities_of.Given as goal

abbrev pub invariant-unknowns : goal.invariant-unknowns
invariant-unknowns l =
    map uid_name l.entities.items ++ entities_asked (asked_each (drop l.unknown-index l.unknown-items))
    ≡ entities_asked (asked_each l.fn.found.keys)
