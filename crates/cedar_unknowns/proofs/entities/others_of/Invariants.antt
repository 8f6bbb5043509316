use Rattle.std.proofs.Common.{◌≡◌, ◌++◌, drop}
use Rattle.cedar_unknowns.specs.Occurrences.{asked_each}
use Rattle.cedar_unknowns.specs.Entities.{others_asked}
use Rattle.cedar_unknowns.proofs.entities.others_of.Given as goal

abbrev pub invariant-unknowns : goal.invariant-unknowns
invariant-unknowns l =
    asked_each l.others.items ++ others_asked (asked_each (drop l.unknown-index l.unknown-items))
    ≡ others_asked (asked_each l.fn.found.keys)
