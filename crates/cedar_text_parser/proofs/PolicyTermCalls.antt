-- A policy's condition calls known functions alone, where the trees that it is read of do.
use Rattle.std.proofs.Common.{ℕ, List, [], ◌∷◌, ◌++◌, map}
use Rattle.cedar_layers.specs.Policies.{policy_view, policy_parts, decides_as}
use Rattle.cedar_layers.specs.declared.policies.policy.Policy.{Policy}
use Rattle.cedar_functions.specs.Functions.{Knowledge}
use Rattle.cedar_text_parser.proofs.TermCalls.{stays_known}
use Rattle.cedar_text_parser.specs.PolicyReading.{IsPolicyAt, ArePolicies, no_policies, policy_behind}
use Rattle.cedar_text_parser.specs.PolicyReading.{template_behind, AreAllRead}
use Rattle.cedar_text_parser.specs.PolicyTermCalls.{ConditionCallsAreKnown, CallsOfPoliciesAreKnown, AreAllCallsKnown}
use Rattle.cedar_text_parser.specs.Sources.{Tokenized}
use Rattle.cedar_text_parser.specs.declared.policies.ParsedPolicies.{ParsedPolicies}

pub policy_known : (k : Knowledge) {source : Tokenized} {limit i j : ℕ} {name : List ℕ} (p : Policy) →
    IsPolicyAt k source limit name i j p → ConditionCallsAreKnown k p
policy_known k p is =
    let of_principal = stays_known k (policy_parts p).principal is.tree.principal is.principal is.calls.principal in
    let of_action = stays_known k (policy_parts p).action is.tree.action is.action is.calls.action in
    let of_resource = stays_known k (policy_parts p).resource is.tree.resource is.resource is.calls.resource in
    let of_condition = stays_known k (policy_parts p).when is.tree.condition is.condition is.calls.condition in
    (((of_principal, of_action), of_resource), of_condition)

-- ---- policies in order

-- each of the policies calls known functions alone
abbrev AreKnown : Knowledge → List Policy → Type 0
AreKnown k ps = CallsOfPoliciesAreKnown k (map decides_as (map policy_view ps))

one_more_known : (k : Knowledge) (ps : List Policy) (p : Policy) → AreKnown k ps → ConditionCallsAreKnown k p →
    AreKnown k (ps ++ p ∷ [])
one_more_known k [] p are is = (is, tt)
one_more_known k (q ∷ ps) p are is = (are.0, one_more_known k ps p are.1 is)

record AreBothKnown (k : Knowledge) (ps ts : List Policy) : Type 0 where
  of_policies : AreKnown k ps
  of_templates : AreKnown k ts

policies_known : (k : Knowledge) {source : Tokenized} {limit i n : ℕ} {ps ts : List Policy} →
    ArePolicies k source limit i n ps ts → AreBothKnown k ps ts
policies_known k no_policies = record { of_policies = tt; of_templates = tt }
policies_known k (policy_behind {ps = ps} {p = p} are is without) =
    let h = policies_known k are in
    record { of_policies = one_more_known k ps p h.of_policies (policy_known k p is); of_templates = h.of_templates }
policies_known k (template_behind {ts = ts} {p = p} are is slot) =
    let h = policies_known k are in
    record { of_policies = h.of_policies; of_templates = one_more_known k ts p h.of_templates (policy_known k p is) }

pub all_known : (k : Knowledge) {text : List ℕ} {limit : ℕ} (out : ParsedPolicies) → AreAllRead k text limit out →
    AreAllCallsKnown k out
all_known k out read =
    let h = policies_known k read.policies in
    record { policies = h.of_policies; templates = h.of_templates }
