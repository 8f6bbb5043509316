use Rattle.std.proofs.Common.{◌≡◌, drop, map}
use Rattle.cedar_names.specs.Leaves.{part_view}
use Rattle.cedar_sql.specs.Patterns.{has_nul_character}
use Rattle.cedar_sql.proofs.patterns.has_nul_character.Given as goal

abbrev pub invariant-parts : goal.invariant-parts
invariant-parts l = has_nul_character (map part_view (drop l.part-index l.parts)) ≡ has_nul_character (map part_view l.parts)
