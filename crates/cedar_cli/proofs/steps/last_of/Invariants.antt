use Rattle.std.proofs.Common.{◌≡◌, drop}
use Rattle.cedar_cli.specs.Stages.{last_in}
use Rattle.cedar_cli.proofs.steps.last_of.Given as goal

abbrev pub invariant-later : goal.invariant-later
invariant-later l = last_in l.last (drop l.taken-index l.later) ≡ last_in l.fn.first l.fn.later
