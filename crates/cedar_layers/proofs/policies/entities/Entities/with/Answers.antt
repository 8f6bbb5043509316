use Rattle.std.proofs.Common.{◌≡◌, ◌∷◌, [], ◌++◌, ap, ◌∙◌}
use Rattle.cedar_layers.specs.Stores.{standing_in, last_of_each_name}
use Rattle.cedar_layers.proofs.Stores.{Layers, entries_of, stands_alone, held-last}
use Rattle.cedar_layers.proofs.policies.entities.Entities.with.Goals as goal

pub returns-clause-whole : goal.returns-clause-whole
returns-clause-whole c =
    ap (λ (rs : Layers). standing_in (entries_of rs)) (c.in_ok-push.ensures.items ∙ ap (λ (rs : Layers). rs ++ c.in_ok-layer.layer ∷ []) c.new-layers.ensures.items)
    ∙ stands_alone c.in_ok-layer.layer.value.entries ∙ c.in_ok-layer.ensures

pub returns-clause-view : goal.returns-clause-view
returns-clause-view c =
    let held = held-last (standing_in (entries_of c.push.new.self.items)) c.args.entities.items (returns-clause-whole c) in
    λ i. record { entity = held i; is_partial = c.args.partial }
