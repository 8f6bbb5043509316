use Rattle.std.proofs.Common.{◌≡◌, ◌++◌, map, drop}
use Rattle.cedar_layers.specs.Policies.{policy_view}
use Rattle.cedar_policy_json_text.specs.Kept.{lent}
use Rattle.cedar_policy_json_text.proofs.kept.each_of.Given as goal

-- those that are lent, and those that are left
abbrev pub invariant-policies : goal.invariant-policies
invariant-policies l = lent l.all.items ++ map policy_view (drop l.policy-index l.fn.policies) ≡ map policy_view l.fn.policies
