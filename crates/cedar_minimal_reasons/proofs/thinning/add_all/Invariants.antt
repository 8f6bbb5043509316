use Rattle.std.proofs.Common.{◌≡◌, ◌++◌, drop}
use Rattle.cedar_minimal_reasons.proofs.thinning.add_all.Given as goal

-- those that are there, and those that are left
abbrev pub invariant-each : goal.invariant-each
invariant-each l = l.facts.items ++ drop l.fact-index l.more ≡ l.fn.facts.items ++ l.fn.more
