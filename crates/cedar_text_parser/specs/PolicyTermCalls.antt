-- Which functions the conditions of policies call that are read, and whether they are known.
use Rattle.std.specs.Prelude.{ℕ, List, [], ◌∷◌, map, ⊤}
use Rattle.cedar_model.specs.Policies as model
use Rattle.cedar_functions.specs.Functions.{Knowledge}
use Rattle.cedar_layers.specs.Policies.{policy_view, condition_term, decides_as}
use Rattle.cedar_layers.specs.PolicySets.{policies_view}
use Rattle.cedar_layers.specs.declared.policies.policy.Policy.{Policy}
use Rattle.cedar_text_parser.specs.TermCalls.{TermCallsAreKnown}
use Rattle.cedar_text_parser.specs.PolicyReading.{IsPolicyText, AreAllRead}
use Rattle.cedar_text_parser.specs.declared.policies.ParsedPolicies.{ParsedPolicies}

-- each call in the condition, scope and all, is of a function that is known, with its number of arguments, and no
-- unknown stands in it
abbrev pub ConditionCallsAreKnown : Knowledge → Policy → Type 0
ConditionCallsAreKnown k p = TermCallsAreKnown k (condition_term (policy_view p))

-- so it is of each of these policies
abbrev pub CallsOfPoliciesAreKnown : Knowledge → List model.Policy → Type 0
CallsOfPoliciesAreKnown k [] = ⊤
CallsOfPoliciesAreKnown k (p ∷ ps) = TermCallsAreKnown k p.condition × CallsOfPoliciesAreKnown k ps

-- so it is of each policy, and of each template
pub record AreAllCallsKnown (k : Knowledge) (out : ParsedPolicies) : Type 0 where
  pub policies : CallsOfPoliciesAreKnown k (map decides_as (policies_view out.policies))
  pub templates : CallsOfPoliciesAreKnown k (map decides_as (map policy_view out.templates.items))

-- a policy that is read calls known functions alone
abbrev pub ReadPolicyCallsKnown : Type 0
ReadPolicyCallsKnown =
    (k : Knowledge) (text : List ℕ) (limit : ℕ) (id : List ℕ) (p : Policy) → IsPolicyText k text limit id p →
    ConditionCallsAreKnown k p

-- so do all policies of a text
abbrev pub ReadPoliciesCallKnown : Type 0
ReadPoliciesCallKnown =
    (k : Knowledge) (text : List ℕ) (limit : ℕ) (out : ParsedPolicies) → AreAllRead k text limit out →
    AreAllCallsKnown k out
