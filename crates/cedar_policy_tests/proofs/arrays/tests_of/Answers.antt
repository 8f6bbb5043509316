-- One after another.
use Rattle.std.proofs.Common.{◌≡◌, ◌+◌, ◌∷◌, drop, sym, ap, ◌∙◌, arith}
use Rattle.std.proofs.lemmas.List.{drop_more}
use Rattle.json.specs.Json.{item}
use Rattle.json.specs.Value.{value_view, items_view}
use Rattle.cedar_policy_tests.specs.Said.{item_tests}
use Rattle.cedar_policy_tests.specs.Views.{test_view, tests_view}
use Rattle.cedar_policy_tests.proofs.Lists.{goes_on, stops}
use Rattle.cedar_policy_tests.proofs.arrays.tests_of.Goals as goal

pub items-preserved : goal.items-preserved
items-preserved c =
    let l = c.items in
    let xs = c.deref-item-items.result.now in
    let x = c.item-item.result in
    let rest = items_view (drop (l.item-index + 1) xs) in
    let here : items_view (drop l.item-index xs) ≡ item (value_view x) rest =
    ap items_view (drop_more xs l.item-index x (omega arith) ∙ ap (λ y. y ∷ drop (l.item-index + 1) xs) (sym c.item-item.is)) in
    goes_on (tests_view l.tests) _ (test_view c.in-Some.test) (value_view x) rest (items_view (drop l.item-index xs)) _
    c.in_ok-put-in-Some.ensures c.in-Some.ensures here l.invariant

pub returns-in-None : goal.returns-in-None
returns-in-None c =
    let l = c.items in
    let xs = c.deref-item-items.result.now in
    let x = c.item-item.result in
    let rest = items_view (drop (l.item-index + 1) xs) in
    let here : items_view (drop l.item-index xs) ≡ item (value_view x) rest =
    ap items_view (drop_more xs l.item-index x (omega arith) ∙ ap (λ y. y ∷ drop (l.item-index + 1) xs) (sym c.item-item.is)) in
    stops (tests_view l.tests) (value_view x) rest (items_view (drop l.item-index xs)) (item_tests (items_view xs))
    c.in-None.ensures here l.invariant
    ∙ ap (λ vs. item_tests (items_view vs)) c.deref-item-items.ensures.value
