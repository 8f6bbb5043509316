-- What a policy is read as that has a constraint that no scope has: the constraint is a condition, before its own.
use Rattle.std.specs.Prelude.{◌≡◌, ℕ, Bool, false, cond, ◌||◌, is_some, List, [], ◌∷◌, ◌++◌, Option, Some, None, Ok}
use Rattle.cedar_model.specs.Terms.{Term}
use Rattle.cedar_model.specs.Agreement.{no_slots}
use Rattle.cedar_model.specs.Meaning.{meaning}
use Rattle.cedar_model.specs.World.{World, Slots, Extensions, Functions}
use Rattle.cedar_functions.specs.Functions.{Knowledge}
use Rattle.cedar_layers.specs.Policies.{PolicyView, condition_term}
use Rattle.cedar_policy_json_reader.specs.Policies.{joined, policy_said}
use Rattle.cedar_policy_json_reader.specs.Scopes.{truth}
use Rattle.cedar_policy_json_writer.specs.Policies.{principal_scope, action_scope, resource_scope, policy_json}
use Rattle.cedar_policy_json_writer.specs.Scopes.{Scope, is_truth}
use Rattle.cedar_policy_json_laws.specs.Back.{AreUnderWords, put_all}
use Rattle.cedar_policy_json_laws.specs.Policies.{IsReadableScope, linked_constraint, IsReadableCondition}

-- ---- what is read

-- a constraint that stands in the scope, with the entities of the slots; `true`, where it does not
abbrev pub constraint_read : Option Scope → Slots → Term → Term
constraint_read o s t = cond (is_some o) (linked_constraint s t) truth

-- what does not stand in the scope and is not `true`
abbrev pub moved : Option Scope → Term → List Term
moved o t = cond (is_some o || is_truth t) [] (t ∷ [])

-- the constraints that are conditions, and then the policy's own condition
abbrev pub conditions_read : PolicyView → List Term
conditions_read p =
    ((moved (principal_scope p) p.principal_constraint ++ moved (action_scope p) p.action_constraint)
    ++ moved (resource_scope p) p.resource_constraint)
    ++ moved None p.when_clause

-- a policy with these in its condition, and with the entities instead of its slots
abbrev pub with_conditions : PolicyView → PolicyView
with_conditions p = record p {
  principal_constraint = constraint_read (principal_scope p) p.slots p.principal_constraint;
  action_constraint = constraint_read (action_scope p) p.slots p.action_constraint;
  resource_constraint = constraint_read (resource_scope p) p.slots p.resource_constraint;
  when_clause = joined (conditions_read p);
  slots = no_slots;
}

-- ---- what can be read

-- in the scope, or else as a condition
abbrev pub IsReadableThere : Bool → Knowledge → ℕ → Option Scope → Term → Type 0
IsReadableThere is_open k n None t = IsReadableCondition k n t
IsReadableThere is_open k n (Some x) t = IsReadableScope is_open x

-- all parts can be read where they stand; annotations are under words, in their order
pub record IsReadableAnywhere (is_open : Bool) (k : Knowledge) (n : ℕ) (p : PolicyView) : Type 0 where
  pub principal_reads : IsReadableThere is_open k n (principal_scope p) p.principal_constraint
  pub action_reads : IsReadableThere is_open k n (action_scope p) p.action_constraint
  pub resource_reads : IsReadableThere is_open k n (resource_scope p) p.resource_constraint
  pub has_condition : IsReadableCondition k n p.when_clause
  pub under_words : AreUnderWords p.annotations
  pub in_order : put_all [] p.annotations ≡ p.annotations

-- what is written of a policy is read, under its id, as the policy with what no scope has in its condition
abbrev pub AnyPolicyReadsBack : PolicyView → Type 0
AnyPolicyReadsBack p =
    (k : Knowledge) (n : ℕ) → IsReadableAnywhere false k n p
    → policy_said k n p.id (policy_json p) ≡ Ok (with_conditions p)

-- the policy that is read means in each world what the one means that was written, where no slot is linked
abbrev pub ConditionsMeanTheSame : PolicyView → Type 0
ConditionsMeanTheSame p =
    p.slots ≡ no_slots → (X : Extensions) (ans : Functions) (w : World)
    → meaning X ans w no_slots (condition_term (with_conditions p)) ≡ meaning X ans w p.slots (condition_term p)
