-- Policies with constraints that no scope has read back.
use Rattle.std.proofs.Common.{◌≡◌, ℕ, ◌+◌, Bool, true, false, cond, ◌||◌, is_some, List, [], ◌∷◌, ◌++◌, map, Option, Some, None, Ok, refl, sym, ap, ◌∙◌, codes}
use Rattle.std.specs.Prelude.{⊤}
use Rattle.std.proofs.lemmas.List.{map-append}
use Rattle.json.specs.Json.{Json, array}
use Rattle.json.specs.Value.{items_of}
use Rattle.cedar_model.specs.Terms.{principal, action, resource, Variable, Term}
use Rattle.cedar_model.specs.World.{Slots}
use Rattle.cedar_functions.specs.Functions.{Knowledge}
use Rattle.cedar_layers.specs.Policies.{PolicyView}
use Rattle.cedar_policy_json_reader.specs.Expressions.{Reading, expression_said}
use Rattle.cedar_policy_json_reader.specs.Paths.{at_key, at_index}
use Rattle.cedar_policy_json_reader.specs.Policies.{kind_of_said, joined, conditions_from, conditions_said}
use Rattle.cedar_policy_json_reader.specs.Refusals.{Said, under, before, both_said, made_of, and_then}
use Rattle.cedar_policy_json_reader.specs.Scopes.{scope_said}
use Rattle.cedar_policy_json_writer.specs.Expressions.{expression_json}
use Rattle.cedar_policy_json_writer.specs.Policies.{behind, principal_scope, action_scope, resource_scope, principal_condition, action_condition, resource_condition, when_json, condition_items, conditions_json}
use Rattle.cedar_policy_json_writer.specs.Scopes.{Scope, scope_of, head_json, is_truth}
use Rattle.cedar_policy_json_laws.specs.Policies.{IsReadableHead, linked_constraint}
use Rattle.cedar_policy_json_laws.specs.Conditions.{constraint_read, moved, conditions_read, IsReadableThere, IsReadableAnywhere, AnyPolicyReadsBack}
use Rattle.cedar_policy_json_laws.proofs.Annotations.{annotations_back}
use Rattle.cedar_policy_json_laws.proofs.Levels.{expression_reads_back}
use Rattle.cedar_policy_json_laws.proofs.Policies.{parts_back}
use Rattle.cedar_policy_json_laws.proofs.Scopes.{scope_back}

-- ---- the scope

by_scope : (is_open : Bool) (k : Knowledge) (n : ℕ) (s : Slots) (v : Variable) (t : Term) (o : Option Scope)
    → (IsReadableHead is_open o → scope_said is_open v (head_json o) ≡ Ok (linked_constraint s t))
    → IsReadableThere is_open k n o t → scope_said is_open v (head_json o) ≡ Ok (constraint_read o s t)
by_scope is_open k n s v t None back h = refl
by_scope is_open k n s v t (Some x) back h = back h

-- behind another
behind_back : (is_open : Bool) (k : Knowledge) (n : ℕ) (s : Slots) (v : Variable) (t : Term) (o : Option Scope) → IsReadableThere is_open k n (behind o (scope_of s v t)) t
    → scope_said is_open v (head_json (behind o (scope_of s v t))) ≡ Ok (constraint_read (behind o (scope_of s v t)) s t)
behind_back is_open k n s v t None h = refl
behind_back is_open k n s v t (Some x) h = by_scope is_open k n s v t (scope_of s v t) (scope_back is_open s v t) h

-- ---- the conditions

when_items : (b : Bool) (s : Slots) (t : Term) → cond b [] (when_json s t ∷ []) ≡ map (when_json s) (cond b [] (t ∷ []))
when_items true s t = refl
when_items false s t = refl

module _ (says : Reading) (s : Slots) where
  -- each of them reads back
  abbrev AllSay : List Term → Type 0
  AllSay [] = ⊤
  AllSay (t ∷ ts) = (says (expression_json s t) ≡ Ok t) × AllSay ts

  both_say : (ts us : List Term) → AllSay ts → AllSay us → AllSay (ts ++ us)
  both_say [] us h g = g
  both_say (t ∷ ts) us h g = (h.0, both_say ts us h.1 g)

  whens_back : (n : ℕ) (ts : List Term) → AllSay ts → conditions_from says n (items_of (map (when_json s) ts)) ≡ Ok ts
  whens_back n [] h = refl
  whens_back n (t ∷ ts) h =
      λ i. before (under (at_index n) (and_then (λ q. kind_of_said q.0 q.1) (both_said (Ok (codes "when")) (under (at_key (codes "body")) (h.0 i))))) (whens_back (n + 1) ts h.1 i)

  said_unless : (t : Term) (b : Bool) → is_truth t ≡ b → (is_truth t ≡ false → says (expression_json s t) ≡ Ok t) → AllSay (cond b [] (t ∷ []))
  said_unless t true e h = tt
  said_unless t false e h = (h e, tt)

moved_say : (is_open : Bool) (k : Knowledge) (n : ℕ) (s : Slots) (o : Option Scope) (t : Term) → IsReadableThere is_open k n o t → AllSay (expression_said k n) s (moved o t)
moved_say is_open k n s None t h = said_unless (expression_said k n) s t (is_truth t) refl (λ e. expression_reads_back t s k n (h e))
moved_say is_open k n s (Some x) t h = tt

module _ (is_open : Bool) (k : Knowledge) (n : ℕ) (p : PolicyView) (h : IsReadableAnywhere is_open k n p) where
  conditions_say : AllSay (expression_said k n) p.slots (conditions_read p)
  conditions_say =
      both_say (expression_said k n) p.slots ((moved (principal_scope p) p.principal_constraint ++ moved (action_scope p) p.action_constraint) ++ moved (resource_scope p) p.resource_constraint) (moved None p.when_clause)
      (both_say (expression_said k n) p.slots (moved (principal_scope p) p.principal_constraint ++ moved (action_scope p) p.action_constraint) (moved (resource_scope p) p.resource_constraint)
      (both_say (expression_said k n) p.slots (moved (principal_scope p) p.principal_constraint) (moved (action_scope p) p.action_constraint)
      (moved_say is_open k n p.slots (principal_scope p) p.principal_constraint h.principal_reads)
      (moved_say is_open k n p.slots (action_scope p) p.action_constraint h.action_reads))
      (moved_say is_open k n p.slots (resource_scope p) p.resource_constraint h.resource_reads))
      (moved_say is_open k n p.slots None p.when_clause h.has_condition)

  -- each is behind a `when`
  items_are : ((principal_condition p ++ action_condition p) ++ resource_condition p) ++ condition_items false p.slots p.when_clause ≡ map (when_json p.slots) (conditions_read p)
  items_are =
      (λ i. ((when_items (is_some (principal_scope p) || is_truth p.principal_constraint) p.slots p.principal_constraint i
      ++ when_items (is_some (action_scope p) || is_truth p.action_constraint) p.slots p.action_constraint i)
      ++ when_items (is_some (resource_scope p) || is_truth p.resource_constraint) p.slots p.resource_constraint i)
      ++ when_items (is_truth p.when_clause) p.slots p.when_clause i)
      ∙ (λ i. (sym (map-append (when_json p.slots) (moved (principal_scope p) p.principal_constraint) (moved (action_scope p) p.action_constraint)) i
      ++ map (when_json p.slots) (moved (resource_scope p) p.resource_constraint)) ++ map (when_json p.slots) (moved None p.when_clause))
      ∙ (λ i. sym (map-append (when_json p.slots) (moved (principal_scope p) p.principal_constraint ++ moved (action_scope p) p.action_constraint) (moved (resource_scope p) p.resource_constraint)) i
      ++ map (when_json p.slots) (moved None p.when_clause))
      ∙ sym (map-append (when_json p.slots) ((moved (principal_scope p) p.principal_constraint ++ moved (action_scope p) p.action_constraint) ++ moved (resource_scope p) p.resource_constraint) (moved None p.when_clause))

  conditions_back : conditions_said (expression_said k n) (conditions_json p) ≡ Ok (joined (conditions_read p))
  conditions_back =
      ap (λ (js : List Json). conditions_said (expression_said k n) (array (items_of js))) items_are
      ∙ ap (λ (r : Said (List Term)). made_of joined r) (whens_back (expression_said k n) p.slots 0 (conditions_read p) conditions_say)

pub any_policy_reads_back : (p : PolicyView) → AnyPolicyReadsBack p
any_policy_reads_back p k n h =
    parts_back false (expression_said k n) p
    (constraint_read (principal_scope p) p.slots p.principal_constraint) (constraint_read (action_scope p) p.slots p.action_constraint)
    (constraint_read (resource_scope p) p.slots p.resource_constraint) (joined (conditions_read p))
    (by_scope false k n p.slots principal p.principal_constraint (principal_scope p) (scope_back false p.slots principal p.principal_constraint) h.principal_reads)
    (behind_back false k n p.slots action p.action_constraint (principal_scope p) h.action_reads)
    (behind_back false k n p.slots resource p.resource_constraint (action_scope p) h.resource_reads)
    (conditions_back false k n p h)
    (annotations_back p.annotations h.under_words h.in_order)
