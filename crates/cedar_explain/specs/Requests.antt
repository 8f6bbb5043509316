-- The policies of a set, each explained.
use Rattle.std.specs.Prelude.{◌≡◌, true}
use Rattle.cedar_layers.specs.declared.policies.policy.Policy.{Policy}
use Rattle.cedar_layers.specs.Policies.{PolicyView, policy_view, condition_term}
use Rattle.cedar_evaluator.specs.declared.evaluator.Evaluator.{Evaluator}
use Rattle.cedar_explain.specs.declared.explanations.Explanation.{Explanation}
use Rattle.cedar_explain.specs.declared.requests.ExplainedPolicy.{ExplainedPolicy}
use Rattle.cedar_explain.specs.Places.{is_part}
use Rattle.cedar_explain.specs.Explained.{OfEach, Decide, AreNeeded}
use Rattle.cedar_explain.specs.Views.{named_parts, told_outcome}
use Rattle.cedar_explain.specs.Reached.{IsReached}

abbrev pub explained_policy : ExplainedPolicy → Policy
explained_policy x = x.policy.now

abbrev pub explanation_of : ExplainedPolicy → Explanation
explanation_of x = x.explanation

-- the policy as plain data
abbrev pub its_view : ExplainedPolicy → PolicyView
its_view x = policy_view (explained_policy x)

-- ---- what is promised of each, as `explain_policy` promises it

-- what it names can be named as a part
abbrev pub NamesParts : ExplainedPolicy → Type 0
NamesParts x = OfEach (λ p. is_part p.term ≡ true) (named_parts (explanation_of x))

-- it has what the evaluator answers for each part
abbrev pub HasReached : {X : Type 0} {F : X → Type 0} {g : _} → Evaluator X F g → ExplainedPolicy → Type 0
HasReached v x = OfEach (IsReached v (its_view x).slots) (named_parts (explanation_of x))

-- in every world in which the parts come out so, the policy comes out as reported
abbrev pub HasDecided : ExplainedPolicy → Type 0
HasDecided x = Decide (condition_term (its_view x)) (named_parts (explanation_of x)) (told_outcome (explanation_of x))

-- none of the parts can be left out
abbrev pub HasNeeded : ExplainedPolicy → Type 0
HasNeeded x = AreNeeded (condition_term (its_view x)) (named_parts (explanation_of x)) (told_outcome (explanation_of x))

-- all of it
pub record IsWellExplained {X : Type 0} {F : X → Type 0} {g : _} (v : Evaluator X F g) (x : ExplainedPolicy) : Type 0 where
  pub parts : NamesParts x
  pub reached : HasReached v x
  pub decided : HasDecided x
  pub needed : HasNeeded x
