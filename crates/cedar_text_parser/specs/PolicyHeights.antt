-- How high the conditions of policies are that are read, as an evaluator counts levels.
use Rattle.std.specs.Prelude.{ℕ, ◌+◌, ◌≤◌, max, map}
use Rattle.cedar_model.specs.Agreement.{height}
use Rattle.cedar_model.specs.Authorizations.{AreNoHigher}
use Rattle.cedar_layers.specs.Policies.{policy_view, condition_term, decides_as}
use Rattle.cedar_layers.specs.PolicySets.{policies_view}
use Rattle.cedar_layers.specs.declared.policies.policy.Policy.{Policy}
use Rattle.cedar_text_parser.specs.declared.policies.ParsedPolicies.{ParsedPolicies}

-- how many levels a condition can have whose clauses have at most `limit`: the scope that is joined to them has 5 at
-- most
abbrev pub with_scope : ℕ → ℕ
with_scope limit = max limit 5 + 1

-- the condition, scope and all, has at most so many levels
abbrev pub IsNoHigher : ℕ → Policy → Type 0
IsNoHigher n p = height (condition_term (policy_view p)) ≤ n

-- so it is of each policy, and of each template
pub record AreAllNoHigher (n : ℕ) (out : ParsedPolicies) : Type 0 where
  pub policies : AreNoHigher (map decides_as (policies_view out.policies)) n
  pub templates : AreNoHigher (map decides_as (map policy_view out.templates.items)) n
