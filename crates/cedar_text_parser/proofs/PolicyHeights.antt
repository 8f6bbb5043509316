-- A policy's condition is hardly higher than the trees that it is read of.
use Rattle.std.proofs.Common.{ℕ, suc, ◌≤◌, max, List, [], ◌∷◌, ◌++◌, map, arith}
use Rattle.cedar_text_lexer.specs.declared.tokens.Token.{Token}
use Rattle.cedar_model.specs.Agreement.{height}
use Rattle.cedar_model.specs.Authorizations.{AreNoHigher}
use Rattle.cedar_expressions.specs.View.{view}
use Rattle.cedar_layers.specs.Policies.{policy_view, policy_parts, decides_as}
use Rattle.cedar_layers.specs.declared.policies.policy.Policy.{Policy}
use Rattle.cedar_text_syntax.specs.Trees as trees
use Rattle.cedar_text_syntax.specs.Trees.{Tree, Trees, tallest}
use Rattle.cedar_text_syntax.specs.declared.steps.Binary.{Binary}
use Rattle.cedar_text_syntax.specs.declared.steps.Binary.TheVariants as binaries
use Rattle.cedar_text_syntax.specs.PolicyGrammar.{IsEntity, entity, IsReference, to_entity, to_slot, AreEntities}
use Rattle.cedar_text_syntax.specs.PolicyGrammar.{one_entity, one_entity_more, IsList, no_entity, some_entities, IsSet}
use Rattle.cedar_text_syntax.specs.PolicyGrammar.{is_set, IsConstraint, unconstrained, compared, in_list, of_type}
use Rattle.cedar_text_syntax.specs.PolicyGrammar.{of_type_in, IsScope, scope, PolicyTree, IsPolicy, policy}
use Rattle.cedar_text_syntax.specs.declared.policies.Variable.{Variable}
use Rattle.cedar_functions.specs.Functions.{Knowledge}
use Rattle.cedar_text_parser.proofs.Heights.{low}
use Rattle.cedar_text_parser.specs.PolicyHeights.{with_scope, IsNoHigher, AreAllNoHigher}
use Rattle.cedar_text_parser.specs.PolicyReading.{IsPolicyAt, ArePolicies, no_policies, policy_behind}
use Rattle.cedar_text_parser.specs.PolicyReading.{template_behind, AreAllRead}
use Rattle.cedar_text_parser.specs.Sources.{Tokenized}
use Rattle.cedar_text_parser.specs.declared.policies.ParsedPolicies.{ParsedPolicies}

-- ---- scopes

entity_low : {all : List Token} {i j e : ℕ} {p : Tree} → IsEntity all i j e p → trees.height p ≤ 1
entity_low (entity path colons id) = omega arith

reference_low : {all : List Token} {v : Variable} {i j e : ℕ} {p : Tree} → IsReference all v i j e p →
    trees.height p ≤ 1
reference_low (to_entity is) = entity_low is
reference_low (to_slot is) = omega arith

entities_low : {all : List Token} {i j : ℕ} {ps : Trees} → AreEntities all i j ps → tallest ps ≤ 1
entities_low (one_entity is) = let h = entity_low is in omega arith
entities_low (one_entity_more are comma is) =
    let h = entities_low are in let k = entity_low is in omega arith

list_low : {all : List Token} {i j : ℕ} {ps : Trees} → IsList all i j ps → tallest ps ≤ 1
list_low (no_entity opens closes) = omega arith
list_low (some_entities opens are closes) = entities_low are

set_low : {all : List Token} {i j : ℕ} {p : Tree} → IsSet all i j p → trees.height p ≤ 2
set_low (is_set is) = let h = list_low is in omega arith

-- an operator is at most two levels above its parts
operator_low : (b : Binary) → trees.levels_of b ≤ 2
operator_low binaries.Or = omega arith
operator_low binaries.And = omega arith
operator_low binaries.Equal = omega arith
operator_low binaries.Less = omega arith
operator_low binaries.LessEqual = omega arith
operator_low binaries.In = omega arith
operator_low binaries.Add = omega arith
operator_low binaries.Sub = omega arith
operator_low binaries.Mul = omega arith
operator_low (binaries.IsIn i k) = omega arith

-- a constraint has at most three levels
constraint_low : {all : List Token} {v : Variable} {i j : ℕ} {p : Tree} → IsConstraint all v i j p →
    trees.height p ≤ 3
constraint_low (unconstrained variable) = omega arith
constraint_low (compared {b = b} variable relation is) =
    let h = reference_low is in let k = operator_low b in omega arith
constraint_low (in_list action variable relation is) = let h = set_low is in omega arith
constraint_low (of_type may variable relation path) = omega arith
constraint_low (of_type_in may variable relation path second is) = let h = reference_low is in omega arith

record IsScopeLow (p q r : Tree) : Type 0 where
  principal : trees.height p ≤ 3
  action : trees.height q ≤ 3
  resource : trees.height r ≤ 3

scope_low : {all : List Token} {i j : ℕ} {p q r : Tree} → IsScope all i j p q r → IsScopeLow p q r
scope_low (scope opens p first q second r closes) =
    record { principal = constraint_low p; action = constraint_low q; resource = constraint_low r }

tree_low : {all : List Token} {i j : ℕ} (t : PolicyTree) → IsPolicy all i j t →
    IsScopeLow t.principal t.action t.resource
tree_low _ (policy annotations effect is conditions) = scope_low is

-- ---- policies

-- the condition of these four parts, where the constraints have at most three levels
joined_low : (limit p a r c : ℕ) → p ≤ 3 → a ≤ 3 → r ≤ 3 → c ≤ limit →
    suc (max (suc (max (suc (max p a)) r)) c) ≤ with_scope limit
joined_low limit p a r c f g h k = omega arith

pub policy_low : {k : Knowledge} {source : Tokenized} {limit i j : ℕ} {name : List ℕ} (p : Policy) →
    IsPolicyAt k source limit name i j p → IsNoHigher (with_scope limit) p
policy_low {limit = limit} p is =
    let s = tree_low is.tree is.derives in
    let of_principal = low (policy_parts p).principal is.tree.principal is.principal in
    let of_action = low (policy_parts p).action is.tree.action is.action in
    let of_resource = low (policy_parts p).resource is.tree.resource is.resource in
    let of_condition = low (policy_parts p).when is.tree.condition is.condition in
    let within = is.low in
    joined_low limit (height (view (policy_parts p).principal)) (height (view (policy_parts p).action))
    (height (view (policy_parts p).resource)) (height (view (policy_parts p).when))
    (omega (arith, s.principal, of_principal)) (omega (arith, s.action, of_action))
    (omega (arith, s.resource, of_resource)) (omega (arith, within, of_condition))

-- ---- policies in order

-- none of the policies is higher than this
abbrev AreLow : List Policy → ℕ → Type 0
AreLow ps n = AreNoHigher (map decides_as (map policy_view ps)) n

one_more_low : (ps : List Policy) (p : Policy) (n : ℕ) → AreLow ps n → IsNoHigher n p → AreLow (ps ++ p ∷ []) n
one_more_low [] p n are is = (is, tt)
one_more_low (q ∷ ps) p n are is = (are.0, one_more_low ps p n are.1 is)

record AreBothLow (ps ts : List Policy) (n : ℕ) : Type 0 where
  of_policies : AreLow ps n
  of_templates : AreLow ts n

policies_low : {k : Knowledge} {source : Tokenized} {limit i n : ℕ} {ps ts : List Policy} →
    ArePolicies k source limit i n ps ts → AreBothLow ps ts (with_scope limit)
policies_low no_policies = record { of_policies = tt; of_templates = tt }
policies_low {limit = limit} (policy_behind {ps = ps} {p = p} are is without) =
    let h = policies_low are in
    record {
      of_policies = one_more_low ps p (with_scope limit) h.of_policies (policy_low p is);
      of_templates = h.of_templates;
    }
policies_low {limit = limit} (template_behind {ts = ts} {p = p} are is slot) =
    let h = policies_low are in
    record {
      of_policies = h.of_policies;
      of_templates = one_more_low ts p (with_scope limit) h.of_templates (policy_low p is);
    }

pub all_low : {k : Knowledge} {text : List ℕ} {limit : ℕ} (out : ParsedPolicies) → AreAllRead k text limit out →
    AreAllNoHigher (with_scope limit) out
all_low out read =
    let h = policies_low read.policies in
    record { policies = h.of_policies; templates = h.of_templates }
