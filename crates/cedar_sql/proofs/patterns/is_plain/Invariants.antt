use Rattle.std.proofs.Common.{◌≡◌, drop, map}
use Rattle.cedar_names.specs.Leaves.{part_view}
use Rattle.cedar_sql.specs.Patterns.{is_plain}
use Rattle.cedar_sql.proofs.patterns.is_plain.Given as goal

abbrev pub invariant-parts : goal.invariant-parts
invariant-parts l = is_plain (map part_view (drop l.part-index l.parts)) ≡ is_plain (map part_view l.parts)
