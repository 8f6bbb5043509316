use Rattle.std.proofs.Common.{◌≡◌, ◌++◌, drop, map}
use Rattle.std.specs.Rc.{rc_str_bytes}
use Rattle.cedar_unknowns.specs.Occurrences.{asked_each}
use Rattle.cedar_cli.specs.Steps.{names_asked}
use Rattle.cedar_cli.proofs.left.open_unknowns.Given as goal

abbrev pub invariant-unknowns : goal.invariant-unknowns
invariant-unknowns l =
    map rc_str_bytes l.names.items ++ names_asked (asked_each (drop l.unknown-index l.unknowns))
    ≡ map rc_str_bytes l.fn.names.items ++ names_asked (asked_each l.fn.unknowns)
