use Rattle.std.proofs.Common.{◌≡◌, drop}
use Rattle.json.specs.Value.{items_view}
use Rattle.cedar_policy_tests.specs.Said.{are_texts}
use Rattle.cedar_policy_tests.proofs.reading.are_texts.Given as goal

-- what is left says what all of it does
abbrev pub invariant-items : goal.invariant-items
invariant-items l =
    are_texts (items_view (drop l.item-index l.item-items)) ≡ are_texts (items_view l.item-items)
