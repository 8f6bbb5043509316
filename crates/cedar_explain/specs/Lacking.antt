-- What a permit lacks: a part that alone keeps it from applying.
use Rattle.std.specs.Prelude.{◌≡◌, Bool, true, false, List}
use Rattle.std.specs.List.{list_any}
use Rattle.cedar_model.specs.Terms.{Term}
use Rattle.cedar_model.specs.Outcomes.{gives_bool}
use Rattle.cedar_model.specs.World.{World, Slots, Extensions, Functions}
use Rattle.cedar_model.specs.Meaning.{meaning}
use Rattle.cedar_model.specs.Policies.{Effect, permit, Verdict, satisfied, unsatisfied, erring, ErrorHandling, counted_verdict}
use Rattle.cedar_layers.specs.declared.policies.policy.Policy.{Policy}
use Rattle.cedar_layers.specs.Policies.{PolicyView, policy_view, condition_term}
use Rattle.cedar_evaluator.specs.declared.evaluator.Evaluator.{Evaluator}
use Rattle.cedar_explain.specs.declared.parts.Part.{Part}
use Rattle.cedar_explain.specs.declared.lacks.Lack.{Lack}
use Rattle.cedar_explain.specs.declared.requests.ExplainedPolicy.{ExplainedPolicy}
use Rattle.cedar_explain.specs.Outcomes.{Came, came_true, came_false, came_other, came_failing, meant}
use Rattle.cedar_explain.specs.Explained.{Told, OfEach, ComeOutSo, Decide, AreNeeded}
use Rattle.cedar_explain.specs.Assuming.{assuming}
use Rattle.cedar_explain.specs.Views.{part_told, told_outcome}
use Rattle.cedar_explain.specs.Reached.{IsReached}
use Rattle.cedar_explain.specs.Requests.{its_view, explanation_of}

-- ---- whether a policy counts

abbrev pub came_verdict : Came → Verdict
came_verdict came_true = satisfied
came_verdict came_false = unsatisfied
came_verdict came_other = erring
came_verdict (came_failing k) = erring

abbrev pub is_met : Verdict → Bool
is_met satisfied = true
is_met unsatisfied = false
is_met erring = false

-- whether a policy of this effect that comes to this counts as satisfied
abbrev pub counts : ErrorHandling → Effect → Came → Bool
counts mode effect o = is_met (counted_verdict mode effect (came_verdict o))

abbrev pub is_reason : ErrorHandling → ExplainedPolicy → Bool
is_reason mode x = counts mode (its_view x).effect (told_outcome (explanation_of x))

-- whether one of the policies does: a forbid forbids, or a permit applies
abbrev pub has_reason : ErrorHandling → List ExplainedPolicy → Bool
has_reason mode xs = list_any (is_reason mode) xs

-- ---- what is lacking

abbrev pub lacking_policy : Lack → Policy
lacking_policy l = l.policy.now

abbrev pub lacking_part : Lack → Part
lacking_part l = l.part.now

-- what the part would have to come to
abbrev pub lacking_truth : Lack → Bool
lacking_truth l = l.truth

abbrev pub IsOfPermit : Lack → Type 0
IsOfPermit l = (policy_view (lacking_policy l)).effect ≡ permit

-- The policy would be satisfied if the part came out as this truth, each other part as the evaluator answers it. With
-- the truth in the part's place the condition is satisfied in every world in which the other parts come out so, of
-- which none can be left out; and so is the condition itself, in those of these worlds in which the part comes out so.
pub record IsSatisfiedIf {X : Type 0} {F : X → Type 0} {g : _} (v : Evaluator X F g) (p : PolicyView) (u : Term) (b : Bool) : Type 0 where
  pub others : List Told
  pub reached : OfEach (IsReached v p.slots) others
  pub decide : Decide (assuming u b (condition_term p)) others came_true
  pub needed : AreNeeded (assuming u b (condition_term p)) others came_true
  pub so : (Y : Extensions) (ans : Functions) (w : World) (slots : Slots) → meaning Y ans w slots u ≡ gives_bool b →
      ComeOutSo Y ans w slots others → meant (meaning Y ans w slots (condition_term p)) ≡ came_true

-- the permit would apply, if its part came out so
abbrev pub WouldApply : {X : Type 0} {F : X → Type 0} {g : _} → Evaluator X F g → Lack → Type 0
WouldApply v l = IsSatisfiedIf v (policy_view (lacking_policy l)) (part_told (lacking_part l)).term (lacking_truth l)

pub record IsLack {X : Type 0} {F : X → Type 0} {g : _} (v : Evaluator X F g) (l : Lack) : Type 0 where
  pub of_permit : IsOfPermit l
  pub applies : WouldApply v l
