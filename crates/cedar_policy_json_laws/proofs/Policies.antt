-- Policies and templates read back.
use Rattle.std.proofs.Common.{◌≡◌, ℕ, Bool, true, false, true≢false, cond, is_some, List, [], ◌∷◌, ◌++◌, Option, Some, None, Ok, refl, sym, ap, ◌∙◌, subst, codes}
use Rattle.json.specs.Json.{Json, string, array}
use Rattle.json.specs.Value.{items_of}
use Rattle.cedar_model.specs.Terms.{Text, Literal, bool_literal, principal, action, resource, Term, literal}
use Rattle.cedar_model.specs.Agreement.{no_slots}
use Rattle.cedar_model.specs.Policies.{Effect, permit, forbid}
use Rattle.cedar_model.specs.World.{Slots}
use Rattle.cedar_functions.specs.Functions.{Knowledge}
use Rattle.cedar_layers.specs.Policies.{PolicyView}
use Rattle.cedar_text_printer.specs.Policies.{effect_text}
use Rattle.cedar_policy_json_reader.specs.Expressions.{Reading, expression_said}
use Rattle.cedar_policy_json_reader.specs.Paths.{at_key, at_index}
use Rattle.cedar_policy_json_reader.specs.Policies.{effect_said, kind_of_said, joined, conditions_said, annotations_said, policy_made, policy_by}
use Rattle.cedar_policy_json_reader.specs.Refusals.{Said, under, before, both_said, made_of, and_then}
use Rattle.cedar_policy_json_reader.specs.Scopes.{truth, scope_said}
use Rattle.cedar_policy_json_writer.specs.Expressions.{expression_json}
use Rattle.cedar_policy_json_writer.specs.Policies.{behind, principal_scope, action_scope, resource_scope, principal_condition, action_condition, resource_condition, when_json, condition_items, conditions_json, annotations_json, policy_json, with_slots}
use Rattle.cedar_policy_json_writer.specs.Scopes.{Scope, scope_of, head_json, is_truth, is_true_literal}
use Rattle.cedar_policy_json_laws.specs.Policies.{IsReadableHead, linked_constraint, with_entities, IsReadablePolicy, LinkedPolicyReadsBack, PolicyReadsBack, TemplateReadsBack}
use Rattle.cedar_policy_json_laws.proofs.Annotations.{annotations_back}
use Rattle.cedar_policy_json_laws.proofs.Levels.{expression_reads_back}
use Rattle.cedar_policy_json_laws.proofs.Scopes.{scope_back, constraint_stays}

effect_back : (e : Effect) → effect_said (string (effect_text e)) ≡ Ok e
effect_back permit = refl
effect_back forbid = refl

-- ---- the condition

never : {A : Type 0} → false ≡ true → A
never e = absurd (true≢false (sym e))

true_is : (l : Literal) → is_true_literal l ≡ true → literal l ≡ truth
true_is (bool_literal b) e = ap (λ (c : Bool). literal (bool_literal c)) e
true_is _ e = never e

pub truth_is : (t : Term) → is_truth t ≡ true → t ≡ truth
truth_is (literal l) e = true_is l e
truth_is _ e = never e

-- behind one `when`
when_back : (says : Reading) (s : Slots) (t : Term) → says (expression_json s t) ≡ Ok t → conditions_said says (array (items_of (when_json s t ∷ []))) ≡ Ok t
when_back says s t h =
    ap (λ (r : Said Term). made_of joined (before (under (at_index 0) (and_then (λ q. kind_of_said q.0 q.1) (both_said (Ok (codes "when")) (under (at_key (codes "body")) r)))) (Ok []))) h

-- behind one, or behind none where it is `true`
condition_by : (says : Reading) (s : Slots) (t : Term) (b : Bool) → is_truth t ≡ b → (is_truth t ≡ false → says (expression_json s t) ≡ Ok t)
    → conditions_said says (array (items_of (cond b [] (when_json s t ∷ [])))) ≡ Ok t
condition_by says s t true e h = ap Ok (sym (truth_is t e))
condition_by says s t false e h = when_back says s t (h e)

-- ---- the scope

stands : (is_open : Bool) (o : Option Scope) → IsReadableHead is_open o → is_some o ≡ true
stands is_open None h = absurd h
stands is_open (Some x) h = refl

-- behind one that stands
behind_is : (is_open : Bool) (o other : Option Scope) → IsReadableHead is_open o → behind o other ≡ other
behind_is is_open None other h = absurd h
behind_is is_open (Some x) other h = refl

-- what stands in the scope is no condition
no_condition : (b : Bool) (s : Slots) (t : Term) → b ≡ true → condition_items b s t ≡ []
no_condition b s t h = ap (λ (c : Bool). condition_items c s t) h

-- ---- all of it

module _ (is_open : Bool) (k : Knowledge) (n : ℕ) (p : PolicyView) (h : IsReadablePolicy is_open k n p) where
  action_is : action_scope p ≡ scope_of p.slots action p.action_constraint
  action_is = behind_is is_open (principal_scope p) (scope_of p.slots action p.action_constraint) h.principal_stands

  action_found : IsReadableHead is_open (action_scope p)
  action_found = subst (IsReadableHead is_open) (sym action_is) h.action_stands

  resource_is : resource_scope p ≡ scope_of p.slots resource p.resource_constraint
  resource_is = behind_is is_open (action_scope p) (scope_of p.slots resource p.resource_constraint) action_found

  resource_found : IsReadableHead is_open (resource_scope p)
  resource_found = subst (IsReadableHead is_open) (sym resource_is) h.resource_stands

  principal_back : scope_said is_open principal (head_json (principal_scope p)) ≡ Ok (linked_constraint p.slots p.principal_constraint)
  principal_back = scope_back is_open p.slots principal p.principal_constraint h.principal_stands

  action_back : scope_said is_open action (head_json (action_scope p)) ≡ Ok (linked_constraint p.slots p.action_constraint)
  action_back =
      ap (λ (o : Option Scope). scope_said is_open action (head_json o)) action_is
      ∙ scope_back is_open p.slots action p.action_constraint h.action_stands

  resource_back : scope_said is_open resource (head_json (resource_scope p)) ≡ Ok (linked_constraint p.slots p.resource_constraint)
  resource_back =
      ap (λ (o : Option Scope). scope_said is_open resource (head_json o)) resource_is
      ∙ scope_back is_open p.slots resource p.resource_constraint h.resource_stands

  no_principal_condition : principal_condition p ≡ []
  no_principal_condition = no_condition (is_some (principal_scope p)) p.slots p.principal_constraint (stands is_open (principal_scope p) h.principal_stands)

  no_action_condition : action_condition p ≡ []
  no_action_condition = no_condition (is_some (action_scope p)) p.slots p.action_constraint (stands is_open (action_scope p) action_found)

  no_resource_condition : resource_condition p ≡ []
  no_resource_condition = no_condition (is_some (resource_scope p)) p.slots p.resource_constraint (stands is_open (resource_scope p) resource_found)

  -- the policy's own condition is the only one
  conditions_are : conditions_json p ≡ array (items_of (condition_items false p.slots p.when_clause))
  conditions_are =
      λ i. array (items_of (((no_principal_condition i ++ no_action_condition i) ++ no_resource_condition i) ++ condition_items false p.slots p.when_clause))

  conditions_back : conditions_said (expression_said k n) (conditions_json p) ≡ Ok p.when_clause
  conditions_back =
      ap (λ (j : Json). conditions_said (expression_said k n) j) conditions_are
      ∙ condition_by (expression_said k n) p.slots p.when_clause (is_truth p.when_clause) refl (λ e. expression_reads_back p.when_clause p.slots k n (h.has_condition e))

-- ---- the whole, of what its parts say

abbrev read_as : PolicyView → Term → Term → Term → Term → PolicyView
read_as p x y z t = record p {
  principal_constraint = x;
  action_constraint = y;
  resource_constraint = z;
  when_clause = t;
  slots = no_slots;
}

-- annotations are left out where there are none
module _ (is_open : Bool) (says : Reading) (id : Text) (a b c d : Term) (s : Slots) (x y z t : Term) where
  abbrev annotated : Effect → List (Text × Text) → PolicyView
  annotated e ps = record {
    effect = e;
    id = id;
    annotations = ps;
    principal_constraint = a;
    action_constraint = b;
    resource_constraint = c;
    when_clause = d;
    slots = s;
  }

  by_annotations : (e : Effect) (ps : List (Text × Text))
      → scope_said is_open principal (head_json (principal_scope (annotated e ps))) ≡ Ok x
      → scope_said is_open action (head_json (action_scope (annotated e ps))) ≡ Ok y
      → scope_said is_open resource (head_json (resource_scope (annotated e ps))) ≡ Ok z
      → conditions_said says (conditions_json (annotated e ps)) ≡ Ok t
      → annotations_said (annotations_json ps) ≡ Ok ps
      → policy_by is_open says id (policy_json (annotated e ps)) ≡ Ok (read_as (annotated e ps) x y z t)
  by_annotations e [] first second third condition under_keys =
      λ i. made_of (policy_made id) (both_said (under (at_key (codes "effect")) (effect_back e i))
      (both_said (both_said (both_said (under (at_key (codes "principal")) (first i))
      (both_said (under (at_key (codes "action")) (second i)) (under (at_key (codes "resource")) (third i))))
      (under (at_key (codes "conditions")) (condition i))) (Ok [])))
  by_annotations e (m ∷ ms) first second third condition under_keys =
      λ i. made_of (policy_made id) (both_said (under (at_key (codes "effect")) (effect_back e i))
      (both_said (both_said (both_said (under (at_key (codes "principal")) (first i))
      (both_said (under (at_key (codes "action")) (second i)) (under (at_key (codes "resource")) (third i))))
      (under (at_key (codes "conditions")) (condition i)))
      (under (at_key (codes "annotations")) (under_keys i))))

pub parts_back : (is_open : Bool) (says : Reading) (p : PolicyView) (x y z t : Term)
    → scope_said is_open principal (head_json (principal_scope p)) ≡ Ok x
    → scope_said is_open action (head_json (action_scope p)) ≡ Ok y
    → scope_said is_open resource (head_json (resource_scope p)) ≡ Ok z
    → conditions_said says (conditions_json p) ≡ Ok t
    → annotations_said (annotations_json p.annotations) ≡ Ok p.annotations
    → policy_by is_open says p.id (policy_json p) ≡ Ok (read_as p x y z t)
parts_back is_open says p x y z t =
    by_annotations is_open says p.id p.principal_constraint p.action_constraint p.resource_constraint p.when_clause p.slots x y z t p.effect p.annotations

whole_back : (is_open : Bool) (k : Knowledge) (n : ℕ) (p : PolicyView) → IsReadablePolicy is_open k n p
    → policy_by is_open (expression_said k n) p.id (policy_json p) ≡ Ok (with_entities p)
whole_back is_open k n p h =
    parts_back is_open (expression_said k n) p (linked_constraint p.slots p.principal_constraint) (linked_constraint p.slots p.action_constraint)
    (linked_constraint p.slots p.resource_constraint) p.when_clause
    (principal_back is_open k n p h) (action_back is_open k n p h) (resource_back is_open k n p h) (conditions_back is_open k n p h)
    (annotations_back p.annotations h.under_words h.in_order)

-- where no slot is linked, all is as it was
policy_stays : (p : PolicyView) → with_entities (with_slots p no_slots) ≡ with_slots p no_slots
policy_stays p = λ i. record p {
  principal_constraint = constraint_stays p.principal_constraint i;
  action_constraint = constraint_stays p.action_constraint i;
  resource_constraint = constraint_stays p.resource_constraint i;
  slots = no_slots;
}

-- ---- policies and templates

pub linked_policy_reads_back : (p : PolicyView) → LinkedPolicyReadsBack p
linked_policy_reads_back p k n h = whole_back false k n p h

pub policy_reads_back : (p : PolicyView) → PolicyReadsBack p
policy_reads_back p k n none h =
    whole_back false k n p h
    ∙ ap (λ (s : Slots). Ok (with_entities (with_slots p s))) none
    ∙ ap (λ (q : PolicyView). Ok q) (policy_stays p)
    ∙ ap (λ (s : Slots). Ok (with_slots p s)) (sym none)

pub template_reads_back : (p : PolicyView) → TemplateReadsBack p
template_reads_back p k n h = whole_back true k n (with_slots p no_slots) h ∙ ap (λ (q : PolicyView). Ok q) (policy_stays p)
