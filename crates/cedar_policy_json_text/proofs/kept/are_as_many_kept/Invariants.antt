use Rattle.std.proofs.Common.{◌≡◌, drop}
use Rattle.cedar_policy_json_text.specs.Kept.{are_kept, lent}
use Rattle.cedar_policy_json_text.proofs.kept.are_as_many_kept.Given as goal

-- all are kept if those are that are left
abbrev pub invariant-policies : goal.invariant-policies
invariant-policies l =
    (l.index ≡ l.policy-index)
    × (are_kept (lent (drop l.policy-index l.fn.policies)) (lent (drop l.policy-index l.fn.read)) ≡ are_kept (lent l.fn.policies) (lent l.fn.read))
