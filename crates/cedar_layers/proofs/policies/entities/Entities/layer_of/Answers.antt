use Rattle.std.proofs.Common.{◌≡◌, [], sym, ap, ◌∙◌, List}
use Rattle.std.proofs.lemmas.List.{nil_from_length}
use Rattle.std.specs.Vec.Iter.{into_iter_items}
use Rattle.std.specs.BTreeMap.{BTreeMap}
use Rattle.cedar_names.specs.declared.names.EntityUID.{EntityUID}
use Rattle.cedar_layers.specs.declared.policies.entities.Entity.{Entity}
use Rattle.cedar_layers.specs.Stores.{standing, standing_with_each, last_of_each_name}
use Rattle.cedar_layers.proofs.policies.entities.Entities.layer_of.Goals as goal

pub returns : goal.returns
returns c =
    let none : into_iter_items c.put.entity-iterator ≡ [] = nil_from_length _ (sym c.put.entity-iterator.rest.ok.0 ∙ c.in-None.ensures.steps.0) in
    let last : standing c.put.held.entries ≡ last_of_each_name c.args.entities.items = sym (ap (standing_with_each (standing c.put.held.entries)) none) ∙ c.put.invariant in
    ap (λ (m : BTreeMap EntityUID Entity). standing m.entries) c.in_ok-layer.ensures ∙ last
