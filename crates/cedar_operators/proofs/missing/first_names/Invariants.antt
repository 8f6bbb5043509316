use Rattle.std.proofs.Common.{◌≡◌, ◌≤◌, ◌++◌, map, vec_len}
use Rattle.std.specs.Rc.{rc_str_bytes}
use Rattle.cedar_names.specs.Leaves.{texts_view}
use Rattle.cedar_operators.proofs.missing.first_names.Given as goal

abbrev pub invariant-names : goal.invariant-names
invariant-names g l =
    (texts_view l.shown.items ++ map rc_str_bytes l.name-iterator ≡ map rc_str_bytes l.fn.names) × (vec_len l.shown ≤ 5)
