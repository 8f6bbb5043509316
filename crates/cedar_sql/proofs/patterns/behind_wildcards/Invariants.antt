use Rattle.std.proofs.Common.{◌≡◌, length, map}
use Rattle.cedar_names.specs.Leaves.{part_view}
use Rattle.cedar_sql.specs.Patterns.{behind_wildcards}
use Rattle.cedar_sql.proofs.patterns.behind_wildcards.Given as goal

abbrev pub invariant-parts : goal.invariant-parts
invariant-parts l = behind_wildcards (map part_view l.rest) ≡ behind_wildcards (map part_view l.parts)

abbrev pub decreases-parts : goal.decreases-parts
decreases-parts l = length l.rest
