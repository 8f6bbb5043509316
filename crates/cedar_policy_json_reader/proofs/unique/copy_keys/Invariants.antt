use Rattle.std.proofs.Common.{◌≡◌, ◌≤◌, ◌++◌, drop, length, vec_len, vec_capacity}
use Rattle.json.specs.Strict.{keys}
use Rattle.json.specs.Value.{members_view}
use Rattle.json.proofs.Unique.Keys.{texts}
use Rattle.cedar_policy_json_reader.proofs.unique.copy_keys.Given as goal

abbrev pub invariant-loop-member : goal.invariant-loop-member
invariant-loop-member l =
    (texts l.keys.items ++ keys (members_view (drop l.member-index l.member-items)) ≡ keys (members_view l.member-items))
    × (vec_len l.keys ≡ l.member-index) × (length l.member-items ≤ vec_capacity l.keys)
