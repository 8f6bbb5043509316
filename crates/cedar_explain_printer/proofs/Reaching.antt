-- What is promised of an evaluator is promised of what it is given.
use Rattle.std.proofs.Common.{◌≡◌, List, [], ◌∷◌, Result, Ok, Err, IfOk, subst, true}
use Rattle.std.specs.Prelude.{ℕ, Bool}
use Rattle.std.proofs.lemmas.List.Elements.{All-weaker}
use Rattle.cedar_model.specs.World.{Slots}
use Rattle.cedar_model.specs.Rules.{StoredCalls}
use Rattle.cedar_model.specs.Settings.{Setting}
use Rattle.cedar_model.specs.Policies as model
use Rattle.cedar_interpreter.specs.Promises.{IsKnownExactly}
use Rattle.cedar_layers.specs.declared.policies.policy_set.PolicySet.{PolicySet}
use Rattle.cedar_layers.specs.Policies.{policy_view}
use Rattle.cedar_evaluator.specs.declared.evaluator.Evaluator.{Evaluator}
use Rattle.cedar_evaluator.specs.Evaluations.{setting_of, calls_in, limit_of, IsPromisedValue}
use Rattle.cedar_explain.specs.declared.lacks.Lack.{Lack}
use Rattle.cedar_explain.specs.declared.requests.ExplainedPolicy.{ExplainedPolicy}
use Rattle.cedar_explain.specs.Explained.{Told, OfEach}
use Rattle.cedar_explain.specs.Views.{named_parts}
use Rattle.cedar_explain.specs.Reached.{IsReached}
use Rattle.cedar_explain.specs.Requests.{explanation_of, its_view}
use Rattle.cedar_explain.specs.Lacking.{lacking_policy, WouldApply}
use Rattle.cedar_explain_printer.specs.Lines.{Line}
use Rattle.cedar_explain_printer.specs.Explanations.{IsReachedIn, EachIsReached, WouldApplyBy, IsLackOf, IsExplanation}

pub of_ok : {A E : Type 0} (P Q : A → Type 0) → ((a : A) → P a → Q a) → (r : Result A E) → IfOk r P → IfOk r Q
of_ok P Q f (Ok a) h = f a h
of_ok P Q f (Err e) h = tt

pub reached_in : {X : Type 0} {F : X → Type 0} {g : _} (v : Evaluator X F g) (given : Slots → Setting) (calls : StoredCalls) (levels : ℕ)
    → ((slots : Slots) → setting_of v slots ≡ given slots) → calls_in v ≡ calls → limit_of v ≡ levels
    → (slots : Slots) (p : Told) → IsReached v slots p → IsReachedIn given calls levels slots p
reached_in v given calls levels same called within slots p h = record {
  promised = subst (λ (s : Setting). IsPromisedValue s calls levels p.term p.answer) (same slots)
      (subst (λ (c : StoredCalls). IsPromisedValue (setting_of v slots) c levels p.term p.answer) called
      (subst (λ (n : ℕ). IsPromisedValue (setting_of v slots) (calls_in v) n p.term p.answer) within h.promised));
  known = subst (λ (s : Setting). IsKnownExactly s calls levels p.term p.answer) (same slots)
      (subst (λ (c : StoredCalls). IsKnownExactly (setting_of v slots) c levels p.term p.answer) called
      (subst (λ (n : ℕ). IsKnownExactly (setting_of v slots) (calls_in v) n p.term p.answer) within h.known));
}

each_weaker : (P Q : Told → Type 0) → ((p : Told) → P p → Q p) → (ps : List Told) → OfEach P ps → OfEach Q ps
each_weaker P Q f [] h = tt
each_weaker P Q f (p ∷ ps) (x, y) = (f p x, each_weaker P Q f ps y)

module _ (Is Js : Slots → Told → Type 0) (f : (slots : Slots) (p : Told) → Is slots p → Js slots p) where
  reached_of : (x : ExplainedPolicy) → EachIsReached Is x → EachIsReached Js x
  reached_of x h = each_weaker (Is (its_view x).slots) (Js (its_view x).slots) (f (its_view x).slots) (named_parts (explanation_of x)) h

  would_apply : (l : Lack) → WouldApplyBy Is l → WouldApplyBy Js l
  would_apply l h = record {
    others = h.others;
    reached = each_weaker (Is (policy_view (lacking_policy l)).slots) (Js (policy_view (lacking_policy l)).slots)
        (f (policy_view (lacking_policy l)).slots) h.others h.reached;
    needed = h.needed;
    so = h.so;
  }

  lack_of : (xs : List ExplainedPolicy) (mode : model.ErrorHandling) (b : Bool) (lines : List Line) → IsLackOf Is xs mode b lines
      → IsLackOf Js xs mode b lines
  lack_of xs mode b lines h = record {
    lacks = h.lacks;
    of_permits = h.of_permits;
    would_apply = All-weaker (WouldApplyBy Is) (WouldApplyBy Js) would_apply h.lacks h.would_apply;
    none_beside_a_reason = h.none_beside_a_reason;
    lines_are = h.lines_are;
  }

  pub explanation : (ps : PolicySet) (mode : model.ErrorHandling) (b : Bool) (lines : List Line) → IsExplanation Is ps mode b lines
      → IsExplanation Js ps mode b lines
  explanation ps mode b lines h = record {
    explained = h.explained;
    policies_are = h.policies_are;
    parts = h.parts;
    reached = All-weaker (EachIsReached Is) (EachIsReached Js) reached_of h.explained h.reached;
    decide = h.decide;
    needed = h.needed;
    told = lack_of h.explained mode b lines h.told;
  }

-- as `cedar_explain` promises it of an evaluator
pub applies_by : {X : Type 0} {F : X → Type 0} {g : _} (v : Evaluator X F g) (l : Lack) → WouldApply v l → WouldApplyBy (IsReached v) l
applies_by v l h = record { others = h.others; reached = h.reached; needed = h.needed; so = h.so }
