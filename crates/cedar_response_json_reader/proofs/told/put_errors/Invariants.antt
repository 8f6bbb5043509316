use Rattle.std.proofs.Common.{◌≡◌, ◌++◌, drop}
use Rattle.json.specs.Value.{items_view}
use Rattle.cedar_authorizer.specs.responses.Responses.{errors_view}
use Rattle.cedar_response_json_reader.specs.Refusals.{made_of}
use Rattle.cedar_response_json_reader.specs.Errors.{errors_from}
use Rattle.cedar_response_json_reader.proofs.told.put_errors.Given as goal

abbrev pub invariant-items : goal.invariant-items
invariant-items l =
    (l.index ≡ l.item-index) × (errors_from 0 (items_view l.item-items)
    ≡ made_of (λ ts. errors_view l.errors.items ++ ts) (errors_from l.index (items_view (drop l.item-index l.item-items))))
