use Rattle.std.proofs.Common.{◌≡◌, drop}
use Rattle.cedar_layers.specs.Stores.{no_entities, with_entities}
use Rattle.cedar_reasons.specs.Facts.{facts_view, lent}
use Rattle.cedar_reasons.specs.Kept.{are_kept}
use Rattle.cedar_reasons.proofs.entities.kept_entities.Given as goal

-- what is held, with those that are left
abbrev pub invariant-entities : goal.invariant-entities
invariant-entities l =
    are_kept (facts_view l.facts) (with_entities no_entities l.kept.items) (lent (drop l.entity-index l.entities))
    ≡ are_kept (facts_view l.facts) no_entities (lent l.entities)
