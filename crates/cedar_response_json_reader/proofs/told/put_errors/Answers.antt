use Rattle.std.proofs.Common.{◌≡◌, ℕ, ◌+◌, ◌∷◌, ◌++◌, List, drop, map, refl, sym, ap, ◌∙◌, arith, Global}
use Rattle.std.proofs.lemmas.List.{drop_more}
use Rattle.json.specs.Value.{value_view, items_view}
use Rattle.json.specs.declared.value.Value.{Value}
use Rattle.cedar_authorizer.specs.responses.Responses.{errors_view}
use Rattle.cedar_policy_json_reader.specs.Paths.{at_index}
use Rattle.cedar_response_json_reader.specs.Refusals.{under, made_of}
use Rattle.cedar_response_json_reader.specs.Errors.{error_said, errors_from}
use Rattle.cedar_response_json_reader.proofs.Lists.{nothing_read}
use Rattle.cedar_response_json_reader.proofs.Refused.{one_more_done}
use Rattle.cedar_response_json_reader.proofs.told.put_errors.Goals as goal

pub items-init : goal.items-init
items-init c = (refl, nothing_read _ _ _ c.requires)

pub items-preserved : goal.items-preserved
items-preserved c =
    let l = c.items in
    let xs = c.deref-item-items.result.now in
    let x = c.item-item.result in
    let here : drop l.item-index xs ≡ x ∷ drop (l.item-index + 1) xs = drop_more xs l.item-index x (omega arith) ∙ ap (λ y. y ∷ drop (l.item-index + 1) xs) (sym c.item-item.is) in
    let done = errors_view l.errors.items in (
      ap (λ (n : ℕ). n + 1) l.invariant.0,
      one_more_done _ done (under (at_index l.index) (error_said (value_view x))) (errors_from (l.index + 1) (items_view (drop (l.item-index + 1) xs))) _
          (l.invariant.1 ∙ ap (λ (ys : List (Value Global)). made_of (λ ts. done ++ ts) (errors_from l.index (items_view ys))) here) c.in_ok-put_error.ensures.said,
    )
