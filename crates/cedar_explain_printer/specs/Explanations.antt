-- The lines are those of an explanation, of which all is so that `cedar_explain` promises.
use Rattle.std.specs.Prelude.{◌≡◌, ℕ, Bool, true, List, [], map}
use Rattle.std.specs.List.{All}
use Rattle.cedar_model.specs.World.{World, Slots, Extensions, Functions}
use Rattle.cedar_model.specs.Meaning.{meaning}
use Rattle.cedar_model.specs.Outcomes.{gives_bool}
use Rattle.cedar_model.specs.Rules.{StoredCalls}
use Rattle.cedar_model.specs.Settings.{Setting}
use Rattle.cedar_model.specs.Policies as model
use Rattle.cedar_interpreter.specs.Promises.{IsKnownExactly}
use Rattle.cedar_layers.specs.declared.policies.policy_set.PolicySet.{PolicySet}
use Rattle.cedar_layers.specs.PolicySets.{stored_policies}
use Rattle.cedar_layers.specs.Policies.{policy_view, condition_term}
use Rattle.cedar_evaluator.specs.Evaluations.{IsPromisedValue}
use Rattle.cedar_explain.specs.declared.lacks.Lack.{Lack}
use Rattle.cedar_explain.specs.declared.requests.ExplainedPolicy.{ExplainedPolicy}
use Rattle.cedar_explain.specs.Outcomes.{came_true, meant}
use Rattle.cedar_explain.specs.Explained.{Told, OfEach, ComeOutSo, Decide, AreNeeded}
use Rattle.cedar_explain.specs.Assuming.{assuming}
use Rattle.cedar_explain.specs.Views.{part_told, named_parts}
use Rattle.cedar_explain.specs.Requests.{explained_policy, explanation_of, its_view, NamesParts, HasDecided, HasNeeded}
use Rattle.cedar_explain.specs.Lacking.{lacking_policy, lacking_part, lacking_truth, IsOfPermit, has_reason}
use Rattle.cedar_explain_printer.specs.Lines.{Line, all_lines}

-- what is answered for a part is as an evaluator promises that is given this, within so many levels
pub record IsReachedIn (given : Slots → Setting) (calls : StoredCalls) (levels : ℕ) (slots : Slots) (p : Told)
    : Type 0 where
  pub promised : IsPromisedValue (given slots) calls levels p.term p.answer
  pub known : IsKnownExactly (given slots) calls levels p.term p.answer

-- this is so of what is answered for each part of the policy
abbrev pub EachIsReached : (Slots → Told → Type 0) → ExplainedPolicy → Type 0
EachIsReached Is x = OfEach (Is (its_view x).slots) (named_parts (explanation_of x))

-- The permit would apply if its part came out so, each other one as it is answered: in every world in which they do it
-- is satisfied, and none of the others can be left out.
pub record WouldApplyBy (Is : Slots → Told → Type 0) (l : Lack) : Type 0 where
  pub others : List Told
  pub reached : OfEach (Is (policy_view (lacking_policy l)).slots) others
  pub needed : AreNeeded
      (assuming (part_told (lacking_part l)).term (lacking_truth l) (condition_term (policy_view (lacking_policy l))))
      others came_true
  pub so : (Y : Extensions) (ans : Functions) (w : World) (slots : Slots)
      → meaning Y ans w slots (part_told (lacking_part l)).term ≡ gives_bool (lacking_truth l)
      → ComeOutSo Y ans w slots others
      → meant (meaning Y ans w slots (condition_term (policy_view (lacking_policy l)))) ≡ came_true

-- of these explained policies: what permits lack, which is nothing where a policy is a reason, and the lines of both
pub record IsLackOf (Is : Slots → Told → Type 0) (xs : List ExplainedPolicy) (mode : model.ErrorHandling)
    (has_values : Bool) (lines : List Line) : Type 0 where
  pub lacks : List Lack
  pub of_permits : All IsOfPermit lacks
  pub would_apply : All (WouldApplyBy Is) lacks
  pub none_beside_a_reason : has_reason mode xs ≡ true → lacks ≡ []
  pub lines_are : lines ≡ all_lines has_values lacks xs

-- each policy of the set is explained: its parts are reached, they decide, and none of them can be left out; and the
-- lines are those of the explanation
pub record IsExplanation (Is : Slots → Told → Type 0) (ps : PolicySet) (mode : model.ErrorHandling)
    (has_values : Bool) (lines : List Line) : Type 0 where
  pub explained : List ExplainedPolicy
  pub policies_are : map explained_policy explained ≡ stored_policies ps
  pub parts : All NamesParts explained
  pub reached : All (EachIsReached Is) explained
  pub decide : All HasDecided explained
  pub needed : All HasNeeded explained
  pub told : IsLackOf Is explained mode has_values lines
