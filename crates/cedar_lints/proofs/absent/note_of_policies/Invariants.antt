use Rattle.std.proofs.Common.{◌≡◌}
use Rattle.cedar_layers.specs.PolicySets.{policies_left, stored_policies}
use Rattle.cedar_lints.specs.Absent.{absent_each, extent_view, mention_key, sheet_view}
use Rattle.cedar_lints.specs.Keys.{noted_each}
use Rattle.cedar_lints.specs.Knowing.{known_view}
use Rattle.cedar_lints.proofs.absent.note_of_policies.Given as goal

-- what is left to note leads where all of it does
abbrev pub invariant-policies : goal.invariant-policies
invariant-policies l =
    noted_each mention_key (sheet_view l.sheet)
    (absent_each (extent_view l.extent) (known_view l.fn.known) (policies_left l.policy-iterator))
    ≡ noted_each mention_key (sheet_view l.fn.sheet)
    (absent_each (extent_view l.extent) (known_view l.fn.known) (stored_policies l.fn.policies))
