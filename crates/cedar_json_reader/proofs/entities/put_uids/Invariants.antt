use Rattle.std.proofs.Common.{◌≡◌, ◌++◌, drop}
use Rattle.json.specs.Value.{items_view}
use Rattle.cedar_json_reader.specs.Refusals.{made_of}
use Rattle.cedar_json_reader.specs.SaidEntities.{uids_from}
use Rattle.cedar_json_reader.specs.StatedEntities.{names_of}
use Rattle.cedar_json_reader.proofs.entities.put_uids.Given as goal

abbrev pub invariant-items : goal.invariant-items
invariant-items l =
    (l.index ≡ l.item-index) × (uids_from 0 (items_view l.item-items) ≡ made_of (λ ts. names_of l.uids.items ++ ts) (uids_from l.index (items_view (drop l.item-index l.item-items))))
