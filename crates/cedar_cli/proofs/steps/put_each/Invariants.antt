use Rattle.std.proofs.Common.{◌≡◌}
use Rattle.cedar_requests.specs.Substitutions.{values_for}
use Rattle.cedar_cli.specs.Steps.{with_values}
use Rattle.cedar_cli.proofs.steps.put_each.Given as goal

abbrev pub invariant-pairs : goal.invariant-pairs
invariant-pairs l =
    with_values l.name-iterator (values_for l.values.entries)
    ≡ with_values l.fn.pairs.entries (values_for l.fn.values.entries)
