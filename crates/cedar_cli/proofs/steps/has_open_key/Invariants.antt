use Rattle.std.proofs.Common.{◌≡◌, map}
use Rattle.std.specs.Rc.{rc_str_bytes}
use Rattle.cedar_cli.specs.Steps.{some_open}
use Rattle.cedar_cli.proofs.steps.has_open_key.Given as goal

abbrev pub invariant-keys : goal.invariant-keys
invariant-keys l =
    some_open (map rc_str_bytes l.fn.names) l.key-iterator
    ≡ some_open (map rc_str_bytes l.fn.names) l.fn.pairs.entries
