use Rattle.std.proofs.Common.{◌≡◌, ◌++◌, [], List, drop}
use Rattle.cedar_model.specs.Terms.{EntityName}
use Rattle.json.specs.Value.{items_view}
use Rattle.cedar_json_reader.specs.Refusals.{made_of}
use Rattle.cedar_json_reader.specs.SaidEntities.{entities_from}
use Rattle.cedar_json_reader.specs.StatedEntities.{names_of, stated_views}
use Rattle.cedar_json_reader.specs.Evaluated.{AreAmong}
use Rattle.cedar_json_reader.proofs.entities.put_entities.Given as goal

abbrev pub invariant-items : goal.invariant-items
invariant-items l =
    (l.index ≡ l.item-index) × (names : List EntityName) × AreAmong (names_of l.seen.keys) names
    × (entities_from [] 0 (items_view l.item-items) ≡ made_of (λ es. stated_views l.entities.items ++ es) (entities_from names l.index (items_view (drop l.item-index l.item-items))))
