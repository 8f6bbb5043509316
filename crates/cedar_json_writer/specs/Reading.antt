-- Policies that a response names, one after another.
use Rattle.std.specs.Prelude.{◌≡◌, List, [], ◌∷◌, ◌++◌, map, Result, Ok, Err}
use Rattle.std.specs.declared.alloc.AllocError.{AllocError}
use Rattle.json.specs.Json.{Json, string}
use Rattle.cedar_model.specs.Terms.{Text, Term, literal, variable, slot, unknown, if_then_else, both, either, unary}
use Rattle.cedar_model.specs.Terms.{binary, call, get_attribute, has_attribute, extended_has, like, is_of_type}
use Rattle.cedar_model.specs.Terms.{set_of, record_of}
use Rattle.cedar_model.specs.Policies as model
use Rattle.cedar_layers.specs.declared.policies.policy.Policy.{Policy}
use Rattle.cedar_layers.specs.Policies.{PolicyView, policy_view}
use Rattle.cedar_text_printer.specs.Policies.{policy_text}

-- the ids of policies
abbrev pub policy_ids : List model.Policy → List Text
policy_ids ps = map (λ p. p.id) ps

-- the text of the policy's id stands behind those before; no policy, no text
abbrev pub AddsId : Result Policy AllocError → List Json → List Json → Type 0
AddsId (Ok p) before after = after ≡ before ++ string (policy_view p).id ∷ []
AddsId (Err e) before after = ⊥

-- the two sides of a conjunction
abbrev pub left_side : Term → Term
left_side (literal l) = literal l
left_side (variable v) = variable v
left_side (slot s) = slot s
left_side (unknown n t) = unknown n t
left_side (if_then_else c t u) = if_then_else c t u
left_side (both t u) = t
left_side (either t u) = either t u
left_side (unary op t) = unary op t
left_side (binary op t u) = binary op t u
left_side (call f ts) = call f ts
left_side (get_attribute t k) = get_attribute t k
left_side (has_attribute t k) = has_attribute t k
left_side (extended_has t k ks) = extended_has t k ks
left_side (like t p) = like t p
left_side (is_of_type t n) = is_of_type t n
left_side (set_of ts) = set_of ts
left_side (record_of fs) = record_of fs

abbrev pub right_side : Term → Term
right_side (literal l) = literal l
right_side (variable v) = variable v
right_side (slot s) = slot s
right_side (unknown n t) = unknown n t
right_side (if_then_else c t u) = if_then_else c t u
right_side (both t u) = u
right_side (either t u) = either t u
right_side (unary op t) = unary op t
right_side (binary op t u) = binary op t u
right_side (call f ts) = call f ts
right_side (get_attribute t k) = get_attribute t k
right_side (has_attribute t k) = has_attribute t k
right_side (extended_has t k ks) = extended_has t k ks
right_side (like t p) = like t p
right_side (is_of_type t n) = is_of_type t n
right_side (set_of ts) = set_of ts
right_side (record_of fs) = record_of fs

-- a policy, with the four parts that its condition is made of
abbrev pub policy_apart : model.Policy → PolicyView
policy_apart p = record {
  effect = p.effect;
  id = p.id;
  annotations = p.annotations;
  principal_constraint = left_side (left_side (left_side p.condition));
  action_constraint = right_side (left_side (left_side p.condition));
  resource_constraint = right_side (left_side p.condition);
  when_clause = right_side p.condition;
  slots = p.slots;
}

-- Cedar's text of the policy under its id
abbrev pub policy_member : model.Policy → Text × Json
policy_member p = (p.id, string (policy_text (policy_apart p)))

abbrev pub policy_members : List model.Policy → List (Text × Json)
policy_members ps = map policy_member ps

-- that of the policy stands behind the members before; no policy, no member
abbrev pub AddsResidual : Result Policy AllocError → List (Text × Json) → List (Text × Json) → Type 0
AddsResidual (Ok p) before after =
    after ≡ before ++ ((policy_view p).id, string (policy_text (policy_view p))) ∷ []
AddsResidual (Err e) before after = ⊥
