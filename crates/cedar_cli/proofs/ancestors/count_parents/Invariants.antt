use Rattle.std.proofs.Common.{◌≡◌, ◌+◌, drop}
use Rattle.cedar_heights.specs.Capped.{capped}
use Rattle.cedar_cli.specs.Questions.{parents_in}
use Rattle.cedar_cli.proofs.ancestors.count_parents.Given as goal

-- what is counted and what is left are together all
abbrev pub invariant-entities : goal.invariant-entities
invariant-entities l =
    (l.count ≡ capped l.count)
    × (capped (l.count + parents_in (drop l.entity-index l.entities)) ≡ capped (parents_in l.entities))
