-- Which policy a builder of one stands for.
use Rattle.std.specs.Prelude.{◌≡◌, true, List, [], ◌∷◌, Option, None, Some, option_map, Result, Ok, Err, IfOk}
use Rattle.std.specs.Ordering.{nat_cmp, match_ordering}
use Rattle.std.specs.Cmp.Lexicographic.{slice_cmp}
use Rattle.std.specs.declared.alloc.AllocError.{AllocError}
use Rattle.cedar_model.specs.Terms.{Text, Term, literal, bool_literal, both}
use Rattle.cedar_model.specs.Policies.{Effect}
use Rattle.cedar_model.specs.Agreement.{no_slots}
use Rattle.cedar_model.specs.Responses.{truth}
use Rattle.cedar_expressions.specs.View.{view}
use Rattle.cedar_layers.specs.Policies.{PolicyView, effect_view, policy_id_text, annotations_view}
use Rattle.cedar_builder.specs.declared.policies.PolicyBuilder.{PolicyBuilder}
use Rattle.cedar_builder.specs.declared.policies.PolicyParts.{PolicyParts}

-- what was said of a policy; its condition is that of the clauses, if one was said
pub record PolicySaid : Type 0 where
  pub effect : Effect
  pub id : Text
  pub annotations : List (Text × Text)
  pub principal_constraint : Term
  pub action_constraint : Term
  pub resource_constraint : Term
  pub condition : Option Term

-- the effect and the id alone
abbrev pub nothing_said : Effect → Text → PolicySaid
nothing_said effect id = record {
  effect = effect;
  id = id;
  annotations = [];
  principal_constraint = truth;
  action_constraint = truth;
  resource_constraint = truth;
  condition = None;
}

-- ---- scope and clauses

abbrev pub with_principal : PolicySaid → Term → PolicySaid
with_principal s t = record s { principal_constraint = t }

abbrev pub with_action : PolicySaid → Term → PolicySaid
with_action s t = record s { action_constraint = t }

abbrev pub with_resource : PolicySaid → Term → PolicySaid
with_resource s t = record s { resource_constraint = t }

-- the clauses so far and this one
abbrev pub joined : Option Term → Term → Term
joined None t = t
joined (Some s) t = both s t

abbrev pub with_clause : PolicySaid → Term → PolicySaid
with_clause s t = record s { condition = Some (joined s.condition t) }

-- ---- annotations

-- the texts with v under k, at its place in byte order
abbrev pub put_text : List (Text × Text) → Text → Text → List (Text × Text)
put_text [] k v = (k, v) ∷ []
put_text (p ∷ ps) k v = match_ordering (slice_cmp nat_cmp k p.0) ((k, v) ∷ p ∷ ps) ((p.0, v) ∷ ps) (p ∷ put_text ps k v)

abbrev pub with_annotation : Text → Text → PolicySaid → PolicySaid
with_annotation k v s = record s { annotations = put_text s.annotations k v }

-- ---- the policy

-- what was said as a condition: `true` where no clause was
abbrev pub condition_said : Option Term → Term
condition_said None = truth
condition_said (Some t) = t

-- the policy of which this was said
abbrev pub policy_said : PolicySaid → PolicyView
policy_said s = record {
  effect = s.effect;
  id = s.id;
  annotations = s.annotations;
  principal_constraint = s.principal_constraint;
  action_constraint = s.action_constraint;
  resource_constraint = s.resource_constraint;
  when_clause = condition_said s.condition;
  slots = no_slots;
}

-- ---- builders

-- what these parts say
abbrev pub parts_said : PolicyParts → PolicySaid
parts_said p = record {
  effect = effect_view p.effect;
  id = policy_id_text p.id;
  annotations = annotations_view p.annotations;
  principal_constraint = view p.principal;
  action_constraint = view p.action;
  resource_constraint = view p.resource;
  condition = option_map view p.condition;
}

abbrev pub said_in : Result PolicyParts AllocError → Option PolicySaid
said_in (Ok p) = Some (parts_said p)
said_in (Err x) = None

-- what was said of the policy, unless memory ran out on the way
abbrev pub said : PolicyBuilder → Option PolicySaid
said b = said_in b.parts

-- this was said, or memory ran out
abbrev pub SaysIn : Result PolicyParts AllocError → Option PolicySaid → Type 0
SaysIn r what = IfOk r (λ p. what ≡ Some (parts_said p))

abbrev pub Says : PolicyBuilder → Option PolicySaid → Type 0
Says b what = SaysIn b.parts what
