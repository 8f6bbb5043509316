use Rattle.std.proofs.Common.{◌≡◌, ◌∙◌, ap, sym, ℕ, suc, ◌+◌, ◌∷◌, drop, arith}
use Rattle.std.proofs.Math.Seq.{drop-cons}
use Rattle.std.proofs.lemmas.List.{drop_all}
use Rattle.std.specs.BTreeMap.{BTreeMap}
use Rattle.cedar_names.specs.declared.names.EntityUID.{EntityUID}
use Rattle.cedar_layers.specs.declared.policies.entities.Entity.{Entity}
use Rattle.cedar_layers.specs.Stores.{Standing, standing, standing_in, shown, or_below}
use Rattle.cedar_layers.proofs.Stores.{Layer, Layers, entries_of, shown_all, none_below}
use Rattle.cedar_layers.proofs.policies.entities.Entities.by_uid.Goals as goal

pub layers-preserved : goal.layers-preserved
layers-preserved c =
    let items = c.deref-layer-items.result.now in
    let i = c.layers.layer-index in
    let item = c.layer-item.result in
    let more : suc i ≡ i + 1 = omega arith in
    let next : drop i items ≡ item ∷ drop (i + 1) items = drop-cons items i item c.layers-test.true ∙ ap (λ (r : Layer). r ∷ drop (suc i) items) (sym c.layer-item.is) ∙ ap (λ (j : ℕ). item ∷ drop j items) more in
    let before = shown c.layers.listed.entries in
    let others = entries_of (drop (i + 1) items) in
    ap (λ (f : Standing). or_below f (standing_in others)) (c.in_ok-list_each.ensures ∙ ap (λ (m : BTreeMap EntityUID Entity). or_below before (standing m.entries)) c.deref.ensures)
    ∙ shown_all before item.value.entries others
    ∙ ap (λ (rs : Layers). or_below before (standing_in (entries_of rs))) (sym next) ∙ c.layers.invariant

pub returns : goal.returns
returns c =
    let listed = shown c.layers.listed.entries in
    sym (none_below listed)
    ∙ ap (λ (rs : Layers). or_below listed (standing_in (entries_of rs))) (sym (drop_all c.layers.layer-index c.deref-layer-items.result.now c.layers-test.false))
    ∙ c.layers.invariant
