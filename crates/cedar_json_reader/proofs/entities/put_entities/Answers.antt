use Rattle.std.proofs.Common.{◌≡◌, ℕ, ◌+◌, [], ◌∷◌, ◌++◌, List, drop, refl, sym, ap, ◌∙◌, arith, rules, Global}
use Rattle.std.proofs.lemmas.List.{drop_more}
use Rattle.json.specs.Value.{value_view, items_view}
use Rattle.json.specs.declared.value.Value.{Value}
use Rattle.cedar_model.specs.Settings.{is_among}
use Rattle.cedar_names.specs.declared.names.EntityUID.{EntityUID}
use Rattle.cedar_json_reader.specs.Refusals.{made_of}
use Rattle.cedar_json_reader.specs.SaidEntities.{entity_said, entities_from}
use Rattle.cedar_json_reader.specs.StatedEntities.{names_of, stated_views}
use Rattle.cedar_json_reader.proofs.Refused.{refused_same}
use Rattle.cedar_json_reader.proofs.SeenEntities.{no_entities, step, item_refused}
use Rattle.cedar_json_reader.proofs.entities.put_entities.Goals as goal

pub items-init : goal.items-init
items-init c =
    let none : c.new-seen.result.keys ≡ [] = search rules in
    (refl, [], λ e. ap (λ (us : List EntityUID). is_among e (names_of us)) none, no_entities _ _ c.requires)

pub items-preserved : goal.items-preserved
items-preserved c =
    let l = c.items in
    let xs = c.deref-item-items.result.now in
    let x = c.item-item.result in
    let here : drop l.item-index xs ≡ x ∷ drop (l.item-index + 1) xs = drop_more xs l.item-index x (omega arith) ∙ ap (λ y. y ∷ drop (l.item-index + 1) xs) (sym c.item-item.is) in
    let done = stated_views l.entities.items in
    let is = l.invariant.3 ∙ ap (λ (ys : List (Value Global)). made_of (λ es. done ++ es) (entities_from l.invariant.1 l.index (items_view ys))) here in
    let next = step _ done (stated_views c.put_item.new.entities.items) (names_of l.seen.keys) (names_of c.put_item.new.seen.keys) l.invariant.1 l.index (items_view (drop (l.item-index + 1) xs))
    (entity_said (value_view x)) l.invariant.2 is c.in-Ok.ensures.said c.in-Ok.ensures.seen in
    (ap (λ (n : ℕ). n + 1) l.invariant.0, next.names, next.among, next.left)

pub returns-in-Err-clause-refused : goal.returns-in-Err-clause-refused
returns-in-Err-clause-refused c =
    let l = c.items in
    let xs = c.deref-item-items.result.now in
    let x = c.item-item.result in
    let here : drop l.item-index xs ≡ x ∷ drop (l.item-index + 1) xs = drop_more xs l.item-index x (omega arith) ∙ ap (λ y. y ∷ drop (l.item-index + 1) xs) (sym c.item-item.is) in
    let done = stated_views l.entities.items in
    let is = l.invariant.3 ∙ ap (λ (ys : List (Value Global)). made_of (λ es. done ++ es) (entities_from l.invariant.1 l.index (items_view ys))) here in
    refused_same (entities_from [] 0 (items_view c.args.items.now.items)) (entities_from [] 0 (items_view xs)) c.in-Err.error
    (ap (λ (ys : List (Value Global)). entities_from [] 0 (items_view ys)) (sym c.deref-item-items.ensures.value))
    (item_refused _ done (names_of l.seen.keys) l.invariant.1 l.index (items_view (drop (l.item-index + 1) xs)) (entity_said (value_view x)) _ l.invariant.2 is c.in-Err.ensures.refused)
