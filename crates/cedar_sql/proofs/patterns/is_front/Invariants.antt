use Rattle.std.proofs.Common.{◌≡◌, drop, map}
use Rattle.cedar_names.specs.Leaves.{part_view}
use Rattle.cedar_sql.specs.Patterns.{is_front}
use Rattle.cedar_sql.proofs.Walks.{front_from}
use Rattle.cedar_sql.proofs.patterns.is_front.Given as goal

abbrev pub invariant-parts : goal.invariant-parts
invariant-parts l = front_from l.has_wildcard (map part_view (drop l.part-index l.parts)) ≡ is_front (map part_view l.parts)
