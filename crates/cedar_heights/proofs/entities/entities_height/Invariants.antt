use Rattle.std.proofs.Common.{◌≡◌, max, drop}
use Rattle.cedar_heights.specs.Capped.{capped}
use Rattle.cedar_heights.specs.Heights.{greatest_facts}
use Rattle.cedar_heights.proofs.entities.entities_height.Given as goal

-- what is found and what is left are together as high as all
abbrev pub invariant-entities : goal.invariant-entities
invariant-entities l =
    max (capped (greatest_facts (drop l.entity-index l.entities))) l.found ≡ capped (greatest_facts l.entities)
