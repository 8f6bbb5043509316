use Rattle.std.proofs.Common.{◌≡◌, ap, ◌∙◌}
use Rattle.cedar_layers.specs.Stores.{standing, or_below, standing_in, stored_entity}
use Rattle.cedar_layers.proofs.Stores.{Layers, entries_of, entries-shared, stands_over, held-over}
use Rattle.cedar_layers.proofs.policies.entities.Entities.over.Goals as goal

pub returns-clause-whole : goal.returns-clause-whole
returns-clause-whole c =
    let layer = c.in_ok-layer.layer.value.entries in
    let others : standing_in (entries_of c.in_ok-layers.layers.items) ≡ stored_entity c.args.self.now = ap standing_in (entries-shared c.args.self.now.layers.items c.in_ok-layers.layers.items c.in_ok-layers.ensures.cases.0) in
    ap (λ (rs : Layers). standing_in (entries_of rs)) c.in_ok-insert.ensures.items
    ∙ ap (or_below (standing layer)) others ∙ stands_over layer (stored_entity c.args.self.now) c.args.entities.items c.in_ok-layer.ensures

pub returns-clause-held : goal.returns-clause-held
returns-clause-held c =
    held-over (standing_in (entries_of c.insert.new.self.items)) (stored_entity c.args.self.now) c.args.entities.items (returns-clause-whole c)
