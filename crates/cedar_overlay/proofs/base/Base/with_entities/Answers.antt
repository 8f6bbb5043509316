use Rattle.std.proofs.Common.{ap, ◌∙◌}
use Rattle.cedar_layers.specs.declared.policies.entities.Entities.{Entities}
use Rattle.cedar_layers.specs.Stores.{stored_entity, standing_with_each}
use Rattle.cedar_overlay.specs.Bases.{base_entities}
use Rattle.cedar_overlay.proofs.Placed.{is_added, has_ancestors, has_no_cycle, records_all}
use Rattle.cedar_overlay.proofs.base.Base.with_entities.Goals as goal

pub returns-in_ok-over-in-Ok-clause-entities : goal.returns-in_ok-over-in-Ok-clause-entities
returns-in_ok-over-in-Ok-clause-entities c =
    let fs = c.in-Ok.placed.items in
    is_added (stored_entity (base_entities c.args.self.now)) (stored_entity c.in_ok-over-in-Ok.field-0) c.args.brought.items fs c.in-Ok.ensures.placed
    (c.in_ok-over-in-Ok.ensures.whole ∙ ap (λ (s : Entities). standing_with_each (stored_entity s) fs) c.entities.ensures)

pub returns-in_ok-over-in-Ok-clause-ancestors : goal.returns-in_ok-over-in-Ok-clause-ancestors
returns-in_ok-over-in-Ok-clause-ancestors c =
    let fs = c.in-Ok.placed.items in
    has_ancestors (stored_entity (base_entities c.args.self.now)) (stored_entity c.in_ok-over-in-Ok.field-0) c.args.brought.items fs c.in-Ok.ensures.placed
    (c.in_ok-over-in-Ok.ensures.whole ∙ ap (λ (s : Entities). standing_with_each (stored_entity s) fs) c.entities.ensures)

pub returns-in_ok-over-in-Ok-clause-closed : goal.returns-in_ok-over-in-Ok-clause-closed
returns-in_ok-over-in-Ok-clause-closed c =
    let fs = c.in-Ok.placed.items in
    records_all (stored_entity (base_entities c.args.self.now)) (stored_entity c.in_ok-over-in-Ok.field-0) c.args.brought.items fs c.in-Ok.ensures.placed
    (c.in_ok-over-in-Ok.ensures.whole ∙ ap (λ (s : Entities). standing_with_each (stored_entity s) fs) c.entities.ensures) c.in-Ok.ensures.accepted

pub returns-in_ok-over-in-Ok-clause-acyclic : goal.returns-in_ok-over-in-Ok-clause-acyclic
returns-in_ok-over-in-Ok-clause-acyclic c =
    let fs = c.in-Ok.placed.items in
    has_no_cycle (stored_entity (base_entities c.args.self.now)) (stored_entity c.in_ok-over-in-Ok.field-0) c.args.brought.items fs c.in-Ok.ensures.placed
    (c.in_ok-over-in-Ok.ensures.whole ∙ ap (λ (s : Entities). standing_with_each (stored_entity s) fs) c.entities.ensures)
