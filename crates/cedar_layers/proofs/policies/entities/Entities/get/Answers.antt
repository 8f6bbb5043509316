use Rattle.std.proofs.Common.{◌≡◌, ◌∙◌, ap, sym, ℕ, suc, ◌+◌, ◌∷◌, drop, arith, Some, None, option_map}
use Rattle.std.proofs.Math.Seq.{drop-cons}
use Rattle.std.proofs.lemmas.List.{drop_all}
use Rattle.std.specs.BTreeMap.{BTreeMap}
use Rattle.std.specs.Map.{lookup}
use Rattle.cedar_names.specs.declared.names.EntityUID.{EntityUID}
use Rattle.cedar_names.specs.Names.{uid_name}
use Rattle.cedar_names.specs.Order.{is_tied}
use Rattle.cedar_layers.specs.declared.policies.entities.Entity.{Entity}
use Rattle.cedar_layers.specs.Stores.{entity_view, standing, standing_in}
use Rattle.cedar_layers.proofs.Stores.{Layer, Layers, entries_of, lookup-by_name, found_first, found_behind}
use Rattle.cedar_layers.proofs.policies.entities.Entities.get.Goals as goal

pub returns-in-Some-clause-whole : goal.returns-in-Some-clause-whole
returns-in-Some-clause-whole c =
    let items = c.deref-layer-items.result.now in
    let i = c.layers.layer-index in
    let item = c.layer-item.result in
    let more : suc i ≡ i + 1 = omega arith in
    let next : drop i items ≡ item ∷ drop (i + 1) items = drop-cons items i item c.layers-test.true ∙ ap (λ (r : Layer). r ∷ drop (suc i) items) (sym c.layer-item.is) ∙ ap (λ (j : ℕ). item ∷ drop j items) more in
    let uid = c.args.uid.now in
    let n = uid_name uid in
    let es = item.value.entries in
    let here : standing es n ≡ Some c.in-Some.entity.now = sym (lookup-by_name uid es) ∙ ap (λ (m : BTreeMap EntityUID Entity). lookup (is_tied uid) m.entries) (sym c.deref.ensures) ∙ sym c.in-Some.ensures.value in
    sym (found_first n es (entries_of (drop (i + 1) items)) c.in-Some.entity.now here)
    ∙ ap (λ (rs : Layers). standing_in (entries_of rs) n) (sym next) ∙ c.layers.invariant

pub returns-in-Some-clause-view : goal.returns-in-Some-clause-view
returns-in-Some-clause-view c =
    ap (option_map entity_view) (returns-in-Some-clause-whole c)

pub layers-preserved : goal.layers-preserved
layers-preserved c =
    let items = c.deref-layer-items.result.now in
    let i = c.layers.layer-index in
    let item = c.layer-item.result in
    let more : suc i ≡ i + 1 = omega arith in
    let next : drop i items ≡ item ∷ drop (i + 1) items = drop-cons items i item c.layers-test.true ∙ ap (λ (r : Layer). r ∷ drop (suc i) items) (sym c.layer-item.is) ∙ ap (λ (j : ℕ). item ∷ drop j items) more in
    let uid = c.args.uid.now in
    let n = uid_name uid in
    let es = item.value.entries in
    let here : standing es n ≡ None = sym (lookup-by_name uid es) ∙ ap (λ (m : BTreeMap EntityUID Entity). lookup (is_tied uid) m.entries) (sym c.deref.ensures) ∙ sym c.in-None.ensures.value in
    sym (found_behind n es (entries_of (drop (i + 1) items)) here)
    ∙ ap (λ (rs : Layers). standing_in (entries_of rs) n) (sym next) ∙ c.layers.invariant

pub returns-clause-whole : goal.returns-clause-whole
returns-clause-whole c =
    let n = uid_name c.args.uid.now in
    sym (ap (λ (rs : Layers). standing_in (entries_of rs) n) (drop_all c.layers.layer-index c.deref-layer-items.result.now c.layers-test.false))
    ∙ c.layers.invariant

pub returns-clause-view : goal.returns-clause-view
returns-clause-view c = ap (option_map entity_view) (returns-clause-whole c)
