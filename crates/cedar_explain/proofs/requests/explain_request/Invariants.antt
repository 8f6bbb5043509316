use Rattle.std.proofs.Common.{◌≡◌, ◌++◌, map}
use Rattle.std.specs.List.{All}
use Rattle.cedar_layers.specs.PolicySets.{policies_left, stored_policies}
use Rattle.cedar_explain.specs.Requests.{explained_policy, IsWellExplained}
use Rattle.cedar_explain.proofs.requests.explain_request.Given as goal

-- the policies that are explained, and those that are left
abbrev pub invariant-policies : goal.invariant-policies
invariant-policies g l = record {
  policies : map explained_policy l.explained.items ++ policies_left l.policy-iterator ≡ stored_policies l.fn.policies;
  each : All (IsWellExplained l.fn.evaluator) l.explained.items;
}
