use Rattle.std.proofs.Common.{◌≡◌, ◌++◌, drop, map}
use Rattle.json.specs.Value.{items_view}
use Rattle.cedar_expressions.specs.View.{view}
use Rattle.cedar_policy_json_reader.specs.Refusals.{made_of}
use Rattle.cedar_policy_json_reader.specs.Scopes.{entities_from}
use Rattle.cedar_policy_json_reader.proofs.scopes.put_entities.Given as goal

abbrev pub invariant-items : goal.invariant-items
invariant-items l =
    (l.index ≡ l.item-index) × (entities_from 0 (items_view l.item-items)
    ≡ made_of (λ ts. map view l.elements.items ++ ts) (entities_from l.index (items_view (drop l.item-index l.item-items))))
