use Rattle.std.proofs.Common.{◌≡◌, length, map}
use Rattle.cedar_names.specs.Leaves.{part_view}
use Rattle.cedar_sql.specs.Patterns.{characters, behind}
use Rattle.cedar_sql.proofs.patterns.behind_of.Given as goal

abbrev pub invariant-parts : goal.invariant-parts
invariant-parts l =
    behind (characters (map part_view l.rest)) ≡ behind (characters (map part_view l.parts))

abbrev pub decreases-parts : goal.decreases-parts
decreases-parts l = length l.rest
