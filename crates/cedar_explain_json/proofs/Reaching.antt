-- What is promised of an evaluator is promised of what it is given.
use Rattle.std.proofs.Common.{◌≡◌, List, [], ◌∷◌, Result, Ok, Err, IfOk, subst, true, false}
use Rattle.std.specs.Prelude.{ℕ, Bool}
use Rattle.std.proofs.lemmas.List.Elements.{All-weaker}
use Rattle.cedar_model.specs.World.{Slots}
use Rattle.cedar_model.specs.Rules.{StoredCalls}
use Rattle.cedar_model.specs.Settings.{Setting}
use Rattle.cedar_model.specs.Policies as model
use Rattle.cedar_interpreter.specs.Promises.{IsKnownExactly}
use Rattle.cedar_layers.specs.declared.policies.policy_set.PolicySet.{PolicySet}
use Rattle.cedar_layers.specs.Policies.{policy_view}
use Rattle.cedar_evaluator.specs.declared.evaluator.Evaluator.{Evaluator}
use Rattle.cedar_evaluator.specs.Evaluations.{setting_of, calls_in, limit_of, IsPromisedValue}
use Rattle.cedar_explain.specs.declared.lacks.Lack.{Lack}
use Rattle.cedar_explain.specs.declared.requests.ExplainedPolicy.{ExplainedPolicy}
use Rattle.cedar_explain.specs.Explained.{Told, OfEach}
use Rattle.cedar_explain.specs.Views.{named_parts, part_told, explained_parts}
use Rattle.cedar_explain.specs.Reached.{IsReached}
use Rattle.cedar_explain.specs.Requests.{explanation_of, its_view}
use Rattle.cedar_explain.specs.Lacking.{lacking_policy, WouldApply}
use Rattle.cedar_explain_printer.specs.Explanations.{IsReachedIn, EachIsReached, WouldApplyBy}
use Rattle.json.specs.Json.{Json}
use Rattle.cedar_model.specs.Terms.{Text, Term}
use Rattle.cedar_explain.specs.declared.parts.Part.{Part}
use Rattle.cedar_explain_json.specs.Documents.{IsOperandJson, HasOperands, IsPartJson, IsPolicyJson, IsDocument}
use Rattle.cedar_explain_json.specs.Explanations.{IsExplanationJson}
use Rattle.cedar_explain_json.specs.Operands.{operands}
use Rattle.cedar_explain_json.proofs.Each.{each_as}

pub of_ok : {A E : Type 0} (P Q : A → Type 0) → ((a : A) → P a → Q a) → (r : Result A E) → IfOk r P → IfOk r Q
of_ok P Q f (Ok a) h = f a h
of_ok P Q f (Err e) h = tt

pub reached_in : {X : Type 0} {F : X → Type 0} {g : _} (v : Evaluator X F g) (given : Slots → Setting) (calls : StoredCalls) (levels : ℕ)
    → ((slots : Slots) → setting_of v slots ≡ given slots) → calls_in v ≡ calls → limit_of v ≡ levels
    → (slots : Slots) (p : Told) → IsReached v slots p → IsReachedIn given calls levels slots p
reached_in v given calls levels same called within slots p h = record {
  promised = subst (λ (s : Setting). IsPromisedValue s calls levels p.term p.answer) (same slots)
      (subst (λ (c : StoredCalls). IsPromisedValue (setting_of v slots) c levels p.term p.answer) called
      (subst (λ (n : ℕ). IsPromisedValue (setting_of v slots) (calls_in v) n p.term p.answer) within h.promised));
  known = subst (λ (s : Setting). IsKnownExactly s calls levels p.term p.answer) (same slots)
      (subst (λ (c : StoredCalls). IsKnownExactly (setting_of v slots) c levels p.term p.answer) called
      (subst (λ (n : ℕ). IsKnownExactly (setting_of v slots) (calls_in v) n p.term p.answer) within h.known));
}

each_weaker : (P Q : Told → Type 0) → ((p : Told) → P p → Q p) → (ps : List Told) → OfEach P ps → OfEach Q ps
each_weaker P Q f [] h = tt
each_weaker P Q f (p ∷ ps) (x, y) = (f p x, each_weaker P Q f ps y)

module _ (Is Js : Slots → Told → Type 0) (f : (slots : Slots) (p : Told) → Is slots p → Js slots p) where
  reached_of : (x : ExplainedPolicy) → EachIsReached Is x → EachIsReached Js x
  reached_of x h = each_weaker (Is (its_view x).slots) (Js (its_view x).slots) (f (its_view x).slots) (named_parts (explanation_of x)) h

  would_apply : (l : Lack) → WouldApplyBy Is l → WouldApplyBy Js l
  would_apply l h = record {
    others = h.others;
    reached = each_weaker (Is (policy_view (lacking_policy l)).slots) (Js (policy_view (lacking_policy l)).slots)
        (f (policy_view (lacking_policy l)).slots) h.others h.reached;
    needed = h.needed;
    so = h.so;
  }

  -- and of values
  operand_as : (slots : Slots) (t : Term) (j : Json) → IsOperandJson (Is slots) t j → IsOperandJson (Js slots) t j
  operand_as slots t j (a, is, so) = (a, f slots (record { term = t; answer = a }) is, so)

  operands_as : (b : Bool) (slots : Slots) (t : Term) (ms : List (Text × Json)) → HasOperands b (Is slots) t ms
      → HasOperands b (Js slots) t ms
  operands_as false slots t ms h = h
  operands_as true slots t ms (j, (js, each, so), is) =
      (j, (js, each_as (IsOperandJson (Is slots)) (IsOperandJson (Js slots)) (operand_as slots) (operands t) js each, so), is)

  part_as : (text : Text) (b : Bool) (slots : Slots) (p : Part) (j : Json) → IsPartJson text b (Is slots) p j
      → IsPartJson text b (Js slots) p j
  part_as text b slots p j (ms, has, so) = (ms, operands_as b slots (part_told p).term ms has, so)

  policy_as : (text : Text) (b : Bool) (x : ExplainedPolicy) (j : Json) → IsPolicyJson text b Is x j
      → IsPolicyJson text b Js x j
  policy_as text b x j (parts, (js, each, so), is) = (
    parts,
    (
      js,
      each_as (IsPartJson text b (Is (its_view x).slots)) (IsPartJson text b (Js (its_view x).slots))
          (part_as text b (its_view x).slots) (explained_parts (explanation_of x)) js each,
      so,
    ),
    is,
  )

  document_as : (text : Text) (b : Bool) (ls : List Lack) (xs : List ExplainedPolicy) (j : Json)
      → IsDocument text b Is ls xs j → IsDocument text b Js ls xs j
  document_as text b ls xs j (policies, (js, each, so), is) =
      (policies, (js, each_as (IsPolicyJson text b Is) (IsPolicyJson text b Js) (policy_as text b) xs js each, so), is)

  pub explanation_as : (text : Text) (ps : PolicySet) (mode : model.ErrorHandling) (b : Bool) (j : Json)
      → IsExplanationJson text Is ps mode b j → IsExplanationJson text Js ps mode b j
  explanation_as text ps mode b j h = record {
    lines = h.lines;
    explanation = record {
      explained = h.explanation.explained;
      policies_are = h.explanation.policies_are;
      parts = h.explanation.parts;
      reached = All-weaker (EachIsReached Is) (EachIsReached Js) reached_of h.explanation.explained h.explanation.reached;
      decide = h.explanation.decide;
      needed = h.explanation.needed;
      told = record {
        lacks = h.explanation.told.lacks;
        of_permits = h.explanation.told.of_permits;
        would_apply = All-weaker (WouldApplyBy Is) (WouldApplyBy Js) would_apply h.explanation.told.lacks
            h.explanation.told.would_apply;
        none_beside_a_reason = h.explanation.told.none_beside_a_reason;
        lines_are = h.explanation.told.lines_are;
      };
    };
    document = document_as text b h.explanation.told.lacks h.explanation.explained j h.document;
  }

-- as `cedar_explain` promises it of an evaluator
pub applies_by : {X : Type 0} {F : X → Type 0} {g : _} (v : Evaluator X F g) (l : Lack) → WouldApply v l → WouldApplyBy (IsReached v) l
applies_by v l h = record { others = h.others; reached = h.reached; needed = h.needed; so = h.so }
