use Rattle.std.proofs.Common.{◌≡◌, ◌++◌, drop, map}
use Rattle.json.specs.Value.{items_view}
use Rattle.cedar_names.specs.Leaves.{part_view}
use Rattle.cedar_policy_json_reader.specs.Leaves.{parts_said}
use Rattle.cedar_policy_json_reader.specs.Refusals.{made_of}
use Rattle.cedar_policy_json_reader.proofs.attributes.read_parts.Given as goal

abbrev pub invariant-items : goal.invariant-items
invariant-items l =
    (l.index ≡ l.item-index) × (parts_said 0 (items_view l.item-items)
    ≡ made_of (λ ts. map part_view l.elems.items ++ ts) (parts_said l.index (items_view (drop l.item-index l.item-items))))
