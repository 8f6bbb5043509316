use Rattle.std.proofs.Common.{◌≡◌, ◌∙◌, ◌+◌, ◌++◌, List, [], append-nil, arith, drop, map, string_bytes, subst, sym}
use Rattle.std.proofs.lemmas.List.{drop_all}
use Rattle.json.specs.Value.{value_view, items_view}
use Rattle.cedar_endpoints.specs.Asked.{Text}
use Rattle.cedar_endpoints.specs.Several.{stops, IsItem, AreItems, no_item}
use Rattle.cedar_endpoints.proofs.Listed.{items_drop, item_left, item_last}
use Rattle.cedar_endpoints.proofs.evaluations.items_of.Goals as goal

pub items-init : goal.items-init
items-init g c = λ ts h.
    let stop = stops c.args.several.semantic in
    let Is = IsItem (g.D.Decider.decides c.args.decider.now) (value_view c.args.all.now) in
    subst (λ vs. AreItems stop Is (items_view vs) (map string_bytes c.new-texts.result.items ++ ts))
    c.deref-item-items.ensures.value
    (subst (λ l. AreItems stop Is (items_view c.deref-item-items.result.now) (map string_bytes l ++ ts))
    (sym c.new-texts.ensures.items) h)

pub items-preserved : goal.items-preserved
items-preserved g c = λ ts h.
    item_left (stops c.args.several.semantic)
    (IsItem (g.D.Decider.decides c.args.decider.now) (value_view c.args.all.now))
    (items_view c.args.several.items.now.items) (items_view (drop c.items.item-index c.deref-item-items.result.now))
    (items_view (drop (c.items.item-index + 1) c.deref-item-items.result.now)) (value_view c.item-item.result)
    c.in_ok-answer.answer.is_allowed (string_bytes c.in_ok-answer.answer.text)
    (map string_bytes c.items.texts.items) (map string_bytes c.push_text.new.texts.items)
    (items_drop c.deref-item-items.result.now c.items.item-index c.item-item.result c.items-test.true c.item-item.is)
    c.in_ok-answer.ensures c.in_ok-push_text.ensures c.items.invariant (sym c.stops.ensures ∙ c.if-stops.false) ts h

pub returns-then-stops : goal.returns-then-stops
returns-then-stops g c =
    item_last (stops c.args.several.semantic)
    (IsItem (g.D.Decider.decides c.args.decider.now) (value_view c.args.all.now))
    (items_view c.args.several.items.now.items) (items_view (drop c.items.item-index c.deref-item-items.result.now))
    (items_view (drop (c.items.item-index + 1) c.deref-item-items.result.now)) (value_view c.item-item.result)
    c.in_ok-answer.answer.is_allowed (string_bytes c.in_ok-answer.answer.text)
    (map string_bytes c.items.texts.items) (map string_bytes c.push_text.new.texts.items)
    (items_drop c.deref-item-items.result.now c.items.item-index c.item-item.result c.items-test.true c.item-item.is)
    c.in_ok-answer.ensures c.in_ok-push_text.ensures c.items.invariant (sym c.stops.ensures ∙ c.if-stops.true)

pub returns : goal.returns
returns g c =
    let stop = stops c.args.several.semantic in
    let Is = IsItem (g.D.Decider.decides c.args.decider.now) (value_view c.args.all.now) in
    let none : drop c.items.item-index c.deref-item-items.result.now ≡ [] =
    drop_all c.items.item-index c.deref-item-items.result.now (omega (arith, c.items-test.false)) in
    let all : AreItems stop Is (items_view c.args.several.items.now.items) (map string_bytes c.items.texts.items ++ []) =
    c.items.invariant [] (subst (λ vs. AreItems stop Is (items_view vs) []) (sym none) no_item) in
    subst (λ (ts : List Text). AreItems stop Is (items_view c.args.several.items.now.items) ts)
    (append-nil (map string_bytes c.items.texts.items)) all
