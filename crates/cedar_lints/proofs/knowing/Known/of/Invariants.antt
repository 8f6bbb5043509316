use Rattle.std.proofs.Common.{◌≡◌}
use Rattle.cedar_lints.specs.Knowing.{known_view, names_in, nothing_known, with_each}
use Rattle.cedar_lints.proofs.knowing.Known.of.Given as goal

-- what is left to add leads where all of it does
abbrev pub invariant-entities : goal.invariant-entities
invariant-entities l =
    with_each (known_view l.known) (names_in l.uid-iterator) ≡ with_each nothing_known (names_in l.initial.uid-iterator)
