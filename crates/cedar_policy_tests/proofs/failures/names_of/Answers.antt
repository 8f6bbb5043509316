-- One after another.
use Rattle.std.proofs.Common.{◌≡◌, ◌+◌, [], ◌∷◌, ◌++◌, List, drop, map, sym, ap, ◌∙◌, arith, append_assoc, Global, string_bytes}
use Rattle.std.proofs.lemmas.List.{drop_more}
use Rattle.json.specs.Value.{value_view, items_view}
use Rattle.json.specs.declared.value.Value.{Value}
use Rattle.cedar_model.specs.Terms.{Text}
use Rattle.cedar_policy_tests.specs.Said.{text_of, text_list}
use Rattle.cedar_policy_tests.proofs.failures.names_of.Goals as goal

pub names-preserved : goal.names-preserved
names-preserved c =
    let l = c.names in
    let xs = c.deref-name-items.result.now in
    let x = c.name-item.result in
    let here : drop l.name-index xs ≡ x ∷ drop (l.name-index + 1) xs =
    drop_more xs l.name-index x (omega arith) ∙ ap (λ y. y ∷ drop (l.name-index + 1) xs) (sym c.name-item.is) in
    let done = map string_bytes l.texts.items in
    let rest = text_list (items_view (drop (l.name-index + 1) xs)) in
    ap (λ (ts : List Text). ts ++ rest) c.in_ok-put_text.ensures
    ∙ append_assoc done (text_of (value_view x) ∷ []) rest
    ∙ sym (ap (λ (vs : List (Value Global)). done ++ text_list (items_view vs)) here)
    ∙ l.invariant
