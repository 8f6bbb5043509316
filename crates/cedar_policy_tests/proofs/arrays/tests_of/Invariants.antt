use Rattle.std.proofs.Common.{◌≡◌, drop}
use Rattle.json.specs.Value.{items_view}
use Rattle.cedar_policy_tests.specs.Said.{item_tests}
use Rattle.cedar_policy_tests.specs.Views.{tests_view}
use Rattle.cedar_policy_tests.proofs.Lists.{with_all}
use Rattle.cedar_policy_tests.proofs.arrays.tests_of.Given as goal

-- those that are put, and those that are left
abbrev pub invariant-items : goal.invariant-items
invariant-items l =
    with_all (tests_view l.tests) (item_tests (items_view (drop l.item-index l.item-items)))
    ≡ item_tests (items_view l.item-items)
