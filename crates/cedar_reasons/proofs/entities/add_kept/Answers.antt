use Rattle.std.proofs.Common.{ap, sym, ◌∙◌}
use Rattle.cedar_layers.specs.Stores.{no_entities, with_entities, with_entity}
use Rattle.cedar_reasons.specs.Facts.{facts_view}
use Rattle.cedar_reasons.proofs.Kept.{one_more, kept_now, not_now}
use Rattle.cedar_reasons.proofs.entities.add_kept.Goals as goal

pub returns-in_ok-add_last : goal.returns-in_ok-add_last
returns-in_ok-add_last c =
    ap (with_entities no_entities) c.in_ok-add_last.ensures.ok
    ∙ one_more no_entities c.args.kept.now.items c.in_ok-entity.entity
    ∙ (λ i. with_entity (with_entities no_entities c.args.kept.now.items) (c.in_ok-entity.ensures.name i) (c.in_ok-entity.ensures.view i))
    ∙ sym (kept_now (facts_view c.args.facts.now) (with_entities no_entities c.args.kept.now.items) c.args.entity.now (sym c.is_kept_entity.ensures ∙ c.if-is_kept_entity.true))

pub returns-else-is_kept_entity : goal.returns-else-is_kept_entity
returns-else-is_kept_entity c =
    sym (not_now (facts_view c.args.facts.now) (with_entities no_entities c.args.kept.now.items) c.args.entity.now (sym c.is_kept_entity.ensures ∙ c.if-is_kept_entity.false))
