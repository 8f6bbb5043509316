use Rattle.std.proofs.Common.{◌≡◌, drop}
use Rattle.json.specs.Value.{items_view}
use Rattle.cedar_policy_tests.specs.Faults.{first_fault}
use Rattle.cedar_policy_tests.proofs.faults.first_fault.Given as goal

-- of those that are left is told what is told of all
abbrev pub invariant-items : goal.invariant-items
invariant-items l =
    first_fault l.i (items_view (drop l.i l.fn.items.items)) ≡ first_fault 0 (items_view l.fn.items.items)
