use Rattle.std.proofs.Common.{◌≡◌, ◌++◌, map}
use Rattle.cedar_layers.specs.Policies.{policy_view}
use Rattle.cedar_layers.specs.PolicySets.{policies_left, policies_view}
use Rattle.cedar_policy_json_text.specs.Kept.{lent}
use Rattle.cedar_policy_json_text.proofs.kept.policies_of.Given as goal

-- those that are lent, and those that are left
abbrev pub invariant-policies : goal.invariant-policies
invariant-policies l = lent l.all.items ++ map policy_view (policies_left l.policy-iterator) ≡ policies_view l.fn.policies
