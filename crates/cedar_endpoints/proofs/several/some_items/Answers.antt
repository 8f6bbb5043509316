use Rattle.std.proofs.Common.{◌≡◌, Some, subst, sym, ◌∙◌}
use Rattle.json.specs.Value.{items_view}
use Rattle.cedar_endpoints.specs.Several.{some_items}
use Rattle.cedar_endpoints.proofs.Given.{some_listed}
use Rattle.cedar_endpoints.proofs.several.some_items.Goals as goal

pub returns-else-is_empty : goal.returns-else-is_empty
returns-else-is_empty c =
    subst (λ l. Some (items_view l) ≡ some_items (items_view l)) c.as_slice.ensures.value
    (some_listed _ (sym c.is_empty.ensures ∙ c.if-is_empty.false))
