-- What holds of the parts that a walk put, and of the explanation of a condition.
use Rattle.std.proofs.Common.{◌≡◌, ◌∙◌, List, [], ◌∷◌, ◌++◌, true, Result, Ok, Err, IfOk, ap, sym, subst, subst₂, refl}
use Rattle.cedar_model.specs.Terms.{Term, both}
use Rattle.cedar_explain.specs.declared.parts.Part.{Part}
use Rattle.cedar_explain.specs.declared.explanations.Explanation.{Explanation}
use Rattle.cedar_explain.specs.Outcomes.{Came, came_true, came_false, came_other, came_failing, answered, as_side, chosen}
use Rattle.cedar_explain.specs.Places.{is_part, comes_to, on_side, first_side, second_side}
use Rattle.cedar_explain.specs.Explained.{Told, OfEach, Decide, AreNeeded, Walked}
use Rattle.cedar_explain.specs.Views.{part_told, parts_told, named_parts, told_outcome}
use Rattle.cedar_explain.specs.Reached.{IsExplained}
use Rattle.cedar_explain.proofs.Walks.{part_walked}
use Rattle.cedar_explain.proofs.Worlds.{decided, are_parts, are_needed, each_is}

told_last : (before : List Part) (p : Part) → parts_told (before ++ (p ∷ [])) ≡ parts_told before ++ (part_told p ∷ [])
told_last [] p = refl
told_last (q ∷ qs) p = ap (λ (ps : List Told). part_told q ∷ ps) (told_last qs p)

-- a part that is put behind the others
pub noted : (Is : Told → Type 0) (t : Term) (p : Part) (before after : List Part) (o : Came) → (part_told p).term ≡ t →
    Is (part_told p) → after ≡ before ++ (p ∷ []) → o ≡ answered (part_told p).answer → is_part t ≡ true →
    Walked Is t (parts_told before) (parts_told after) o
noted Is t p before after o same is behind so part =
    let w : Walked Is (part_told p).term (parts_told before) (parts_told before ++ (part_told p ∷ [])) (answered (part_told p).answer) =
    part_walked Is (part_told p).term (part_told p).answer (parts_told before) (subst (λ (u : Term). is_part u ≡ true) (sym same) part) is in
    let v : Walked Is t (parts_told before) (parts_told before ++ (part_told p ∷ [])) o =
    subst₂ (λ (u : Term) (e : Came). Walked Is u (parts_told before) (parts_told before ++ (part_told p ∷ [])) e) same (sym so) w in
    subst (λ (ps : List Told). Walked Is t (parts_told before) ps o) (sym (ap parts_told behind ∙ told_last before p)) v

-- a walk that began with no parts
pub behind_none : (Is : Told → Type 0) (t : Term) (before : List Part) (after : List Told) (o : Came) → before ≡ [] →
    Walked Is t (parts_told before) after o → Walked Is t [] after o
behind_none Is t before after o none w = subst (λ (ps : List Part). Walked Is t (parts_told ps) after o) none w

-- ---- a condition comes to a boolean or an error

side_again : (y : Came) → as_side (as_side y) ≡ as_side y
side_again came_true = refl
side_again came_false = refl
side_again came_other = refl
side_again (came_failing k) = refl

both_again : (x y : Came) → as_side (chosen x (as_side y) came_false) ≡ chosen x (as_side y) came_false
both_again came_true y = side_again y
both_again came_false y = refl
both_again came_other y = refl
both_again (came_failing k) y = refl

condition_side : (Is : Told → Type 0) (a b : Term) (ps : List Told) (o : Came) → Walked Is (both a b) [] ps o → as_side o ≡ o
condition_side Is a b ps o w =
    let at = w.some.0 in
    let so : comes_to at (both a b) ≡ o = w.settled at w.some.1 in
    ap as_side (sym so)
    ∙ both_again (comes_to (on_side first_side at) a) (comes_to (on_side second_side at) b)
    ∙ so

module _ (Is : Told → Type 0) (a b : Term) where
  whole : (x : Explanation) → IsExplained Is (both a b) x → Walked Is (both a b) [] (named_parts x) (told_outcome x)
  whole x e =
      subst (λ (o : Came). Walked Is (both a b) [] (named_parts x) o)
      (sym (condition_side Is a b (named_parts x) e.came e.walked) ∙ sym e.so) e.walked

  pub whole_each : {E : Type 0} (r : Result Explanation E) → IfOk r (IsExplained Is (both a b)) →
      IfOk r (λ x. OfEach Is (named_parts x))
  whole_each (Ok x) h = each_is Is (both a b) (named_parts x) (told_outcome x) (whole x h)
  whole_each (Err e) h = h

  pub whole_needed : {E : Type 0} (r : Result Explanation E) → IfOk r (IsExplained Is (both a b)) →
      IfOk r (λ x. AreNeeded (both a b) (named_parts x) (told_outcome x))
  whole_needed (Ok x) h = are_needed Is (both a b) (named_parts x) (told_outcome x) (whole x h)
  whole_needed (Err e) h = h

  pub whole_parts : {E : Type 0} (r : Result Explanation E) → IfOk r (IsExplained Is (both a b)) →
      IfOk r (λ x. OfEach (λ p. is_part p.term ≡ true) (named_parts x))
  whole_parts (Ok x) h =
      are_parts (both a b) (named_parts x) (told_outcome x) (are_needed Is (both a b) (named_parts x) (told_outcome x) (whole x h))
  whole_parts (Err e) h = h

  pub whole_decides : {E : Type 0} (r : Result Explanation E) → IfOk r (IsExplained Is (both a b)) →
      IfOk r (λ x. Decide (both a b) (named_parts x) (told_outcome x))
  whole_decides (Ok x) h =
      decided (both a b) (named_parts x) (told_outcome x) (are_needed Is (both a b) (named_parts x) (told_outcome x) (whole x h))
  whole_decides (Err e) h = h
