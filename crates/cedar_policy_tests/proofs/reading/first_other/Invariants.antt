use Rattle.std.proofs.Common.{◌≡◌, drop}
use Rattle.json.specs.Value.{members_view}
use Rattle.cedar_policy_tests.specs.Said.{first_other}
use Rattle.cedar_policy_tests.proofs.reading.first_other.Given as goal

-- what is left says what all of it does
abbrev pub invariant-members : goal.invariant-members
invariant-members l =
    first_other (members_view (drop l.member-index l.member-items)) ≡ first_other (members_view l.member-items)
