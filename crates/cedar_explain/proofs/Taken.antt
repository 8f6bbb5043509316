-- A policy whose condition is satisfied where a part is taken to be so would be satisfied if the part came out so.
use Rattle.std.proofs.Common.{◌≡◌, ◌∙◌, Bool, [], ap, sym, subst, subst₂, refl}
use Rattle.cedar_model.specs.Terms.{Term}
use Rattle.cedar_model.specs.World.{Slots}
use Rattle.cedar_layers.specs.Policies.{PolicyView, condition_term}
use Rattle.cedar_evaluator.specs.declared.evaluator.Evaluator.{Evaluator}
use Rattle.cedar_explain.specs.declared.explanations.Explanation.{Explanation}
use Rattle.cedar_explain.specs.Outcomes.{Came, came_true, came_false, came_other, came_failing, as_side, meant}
use Rattle.cedar_explain.specs.Explained.{Walked, AreNeeded, Decide}
use Rattle.cedar_explain.specs.Assuming.{assuming}
use Rattle.cedar_explain.specs.Views.{named_parts, told_outcome}
use Rattle.cedar_explain.specs.Reached.{IsReached, IsExplained}
use Rattle.cedar_explain.specs.Lacking.{IsSatisfiedIf}
use Rattle.cedar_explain.proofs.Worlds.{decided, are_needed, each_is}
use Rattle.cedar_explain.proofs.Supposed.{assumed_same}

side_true : (o : Came) → as_side o ≡ came_true → o ≡ came_true
side_true came_true h = refl
side_true came_false h = absurd (cc)
side_true came_other h = absurd (cc)
side_true (came_failing k) h = absurd (cc)

pub satisfied_if : {X : Type 0} {F : X → Type 0} {g : _} (v : Evaluator X F g) (p : PolicyView) (u : Term) (b : Bool) (x : Explanation) →
    IsExplained (IsReached v p.slots) (assuming u b (condition_term p)) x → told_outcome x ≡ came_true → IsSatisfiedIf v p u b
satisfied_if v p u b x e is =
    let t : Term = assuming u b (condition_term p) in
    let came : e.came ≡ came_true = side_true e.came (sym e.so ∙ is) in
    let w : Walked (IsReached v p.slots) t [] (named_parts x) came_true =
    subst (λ (o : Came). Walked (IsReached v p.slots) t [] (named_parts x) o) came e.walked in
    let needed : AreNeeded t (named_parts x) came_true = are_needed (IsReached v p.slots) t (named_parts x) came_true w in
    let decide : Decide t (named_parts x) came_true = decided t (named_parts x) came_true needed in
    record {
      others = named_parts x;
      reached = each_is (IsReached v p.slots) t (named_parts x) came_true w;
      decide = decide;
      needed = needed;
      so = λ Y ans w slots is come. ap meant (sym (assumed_same Y ans w slots u b is (condition_term p))) ∙ decide Y ans w slots come;
    }

-- the same, where the slots and the condition are known by other names
pub satisfied_as : {X : Type 0} {F : X → Type 0} {g : _} (v : Evaluator X F g) (p : PolicyView) (u : Term) (b : Bool) (x : Explanation)
    (s : Slots) (t : Term) → s ≡ p.slots → t ≡ assuming u b (condition_term p) → IsExplained (IsReached v s) t x →
    told_outcome x ≡ came_true → IsSatisfiedIf v p u b
satisfied_as v p u b x s t slots term e is =
    satisfied_if v p u b x (subst₂ (λ (r : Slots) (c : Term). IsExplained (IsReached v r) c x) slots term e) is
