use Rattle.std.proofs.Common.{◌≡◌, ◌++◌, drop}
use Rattle.json.specs.Value.{items_view}
use Rattle.cedar_names.specs.Leaves.{texts_view}
use Rattle.cedar_policy_json_reader.specs.Leaves.{texts_said}
use Rattle.cedar_policy_json_reader.specs.Refusals.{made_of}
use Rattle.cedar_policy_json_reader.proofs.attributes.read_texts.Given as goal

abbrev pub invariant-items : goal.invariant-items
invariant-items l =
    (l.index ≡ l.item-index) × (texts_said 0 (items_view l.item-items)
    ≡ made_of (λ ts. texts_view l.texts.items ++ ts) (texts_said l.index (items_view (drop l.item-index l.item-items))))
