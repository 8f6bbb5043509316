use Rattle.std.proofs.Common.{[], ◌∷◌, ◌++◌, ap, ◌∙◌, append_assoc}
use Rattle.cedar_layers.specs.Stores.{entity_name}
use Rattle.cedar_reasons.specs.Facts.{facts_view, of_entity, attribute_facts, tag_facts}
use Rattle.cedar_reasons.proofs.Listed.{fact_more}
use Rattle.cedar_reasons.proofs.facts.add_entity.Goals as goal

pub returns : goal.returns
returns c =
    let before = facts_view c.args.facts.now.items in
    let own = of_entity (entity_name c.args.entity.now) ∷ [] in
    let attributes = attribute_facts c.args.entity.now in
    let tags = tag_facts c.args.entity.now in
    c.in_ok-add_tags.ensures
    ∙ ap (λ fs. fs ++ tags) c.in_ok-add_attributes.ensures
    ∙ ap (λ fs. (fs ++ attributes) ++ tags) (fact_more c.args.facts.now.items _ _ _ c.in_ok-add_last.ensures.ok (ap of_entity c.uid.ensures.name))
    ∙ append_assoc (before ++ own) attributes tags
    ∙ append_assoc before own (attributes ++ tags)
