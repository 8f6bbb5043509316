use Rattle.std.proofs.Common.{◌≡◌, List, [], ◌∷◌, ◌++◌, ap, ◌∙◌}
use Rattle.cedar_names.specs.Names.{uid_name}
use Rattle.cedar_layers.specs.declared.policies.entities.Entity.{Entity}
use Rattle.cedar_layers.specs.declared.policies.entities.Entities.{Entities}
use Rattle.cedar_layers.specs.Stores.{store_view, with_entities, facts_of_values}
use Rattle.cedar_service.specs.Properties.{HasOneMore}
use Rattle.cedar_service.proofs.Composed.{of_both}
use Rattle.cedar_service.proofs.properties.with_one.Goals as goal

pub returns : goal.returns
returns c =
    let s = c.args.store.now in
    let e = c.in_ok-entity.entity in
    let one : c.add_last.new.items.items ≡ e ∷ [] =
    c.in_ok-add_last.ensures.ok ∙ ap (λ (es : List Entity). es ++ e ∷ []) c.new-more.ensures.items in
    of_both (λ (made : Entities). (store_view made).entity ≡ with_entities (store_view s).entity c.add_last.new.items.items)
    (λ (made : Entities). (store_view made).is_partial ≡ (store_view s).is_partial)
    (HasOneMore s (uid_name c.args.uid) c.args.attributes)
    (λ made held partial. record {
      entity = e;
      name = c.in_ok-entity.ensures.name;
      facts = c.in_ok-entity.ensures.view
          ∙ (λ i. facts_of_values c.args.attributes.entries (c.new.ensures.empty i) (c.new-2.ensures.empty i));
      held = held ∙ ap (with_entities (store_view s).entity) one;
      partial = partial;
    }) c.over.result c.over.ensures.held c.over.ensures.partial
