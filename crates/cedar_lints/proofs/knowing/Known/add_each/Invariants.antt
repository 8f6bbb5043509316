use Rattle.std.proofs.Common.{◌≡◌, map}
use Rattle.cedar_names.specs.Names.{uid_name}
use Rattle.cedar_lints.specs.Knowing.{known_view, with_each}
use Rattle.cedar_lints.proofs.knowing.Known.add_each.Given as goal

-- what is left to add leads where all of it does
abbrev pub invariant-uids : goal.invariant-uids
invariant-uids l =
    with_each (known_view l.self) (map uid_name l.uid-iterator)
    ≡ with_each (known_view l.fn.self) (map uid_name l.fn.uids.keys)
