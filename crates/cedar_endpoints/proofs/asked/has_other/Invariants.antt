use Rattle.std.proofs.Common.{◌≡◌, drop}
use Rattle.json.specs.Value.{members_view}
use Rattle.cedar_endpoints.specs.Asked.{has_other}
use Rattle.cedar_endpoints.proofs.asked.has_other.Given as goal

abbrev pub invariant-members : goal.invariant-members
invariant-members l = has_other l.keys (members_view (drop l.member-index l.member-items)) ≡ has_other l.keys (members_view l.member-items)
