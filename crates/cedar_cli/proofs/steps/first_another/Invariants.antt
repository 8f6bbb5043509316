use Rattle.cedar_requests.specs.Substitutions.{values_for}
use Rattle.cedar_cli.specs.Stopped.{GivesAnother}
use Rattle.cedar_cli.proofs.steps.first_another.Given as goal

-- what is so of those that are left is so of all
abbrev pub invariant-pairs : goal.invariant-pairs
invariant-pairs l =
    GivesAnother (values_for l.fn.values.entries) l.name-iterator
    → GivesAnother (values_for l.fn.values.entries) l.fn.pairs.entries
