-- Policies that are explained one after another, and what they lack.
use Rattle.std.proofs.Common.{◌≡◌, ◌∙◌, List, [], ◌∷◌, ◌++◌, map, Result, Ok, Err, OnOk, ap, sym, subst, append_assoc, append-nil}
use Rattle.std.specs.List.{All}
use Rattle.std.proofs.lemmas.List.{map-append}
use Rattle.std.proofs.lemmas.List.Elements.{All-nil, All-push, All-weaker}
use Rattle.cedar_layers.specs.declared.policies.policy.Policy.{Policy}
use Rattle.cedar_evaluator.specs.declared.evaluator.Evaluator.{Evaluator}
use Rattle.cedar_explain.specs.declared.requests.ExplainedPolicy.{ExplainedPolicy}
use Rattle.cedar_explain.specs.declared.lacks.Lack.{Lack}
use Rattle.cedar_explain.specs.Requests.{explained_policy, NamesParts, HasReached, HasDecided, HasNeeded, IsWellExplained}
use Rattle.cedar_explain.specs.Lacking.{IsOfPermit, WouldApply, IsLack}

-- one policy more
pub one_more : (xs ys : List ExplainedPolicy) (x : ExplainedPolicy) (p : Policy) → ys ≡ xs ++ (x ∷ []) → explained_policy x ≡ p →
    map explained_policy ys ≡ map explained_policy xs ++ (p ∷ [])
one_more xs ys x p is same =
    ap (map explained_policy) is ∙ map-append explained_policy xs (x ∷ []) ∙ ap (λ (q : Policy). map explained_policy xs ++ (q ∷ [])) same

pub ok_more : {A E : Type 0} (r : Result A E) (xs ys : List ExplainedPolicy) (x : ExplainedPolicy) (p : Policy) →
    OnOk r (ys ≡ xs ++ (x ∷ [])) → explained_policy x ≡ p → OnOk r (map explained_policy ys ≡ map explained_policy xs ++ (p ∷ []))
ok_more (Ok a) xs ys x p is same = one_more xs ys x p is same
ok_more (Err e) xs ys x p is same = is

pub begun : (xs : List ExplainedPolicy) (left all : List Policy) → xs ≡ [] → left ≡ all → map explained_policy xs ++ left ≡ all
begun xs left all none is = ap (λ (ys : List ExplainedPolicy). map explained_policy ys ++ left) none ∙ is

-- a policy goes from those that are left to those that are explained
pub carried : (done next : List Policy) (left rest all : List Policy) (p : Policy) → next ≡ done ++ (p ∷ []) → left ≡ p ∷ rest →
    done ++ left ≡ all → next ++ rest ≡ all
carried done next left rest all p is on so =
    ap (λ (qs : List Policy). qs ++ rest) is ∙ append_assoc done (p ∷ []) rest ∙ ap (λ (qs : List Policy). done ++ qs) (sym on) ∙ so

pub none_left : (done left all : List Policy) → left ≡ [] → done ++ left ≡ all → done ≡ all
none_left done left all none so = sym (append-nil done) ∙ ap (λ (qs : List Policy). done ++ qs) (sym none) ∙ so

pub pushed : {X : Type 0} (P : X → Type 0) (xs ys : List X) (x : X) → ys ≡ xs ++ (x ∷ []) → P x → All P xs → All P ys
pushed P xs ys x is h all = subst (All P) (sym is) (All-push P xs x all h)

pub ok_pushed : {A E X : Type 0} (r : Result A E) (P : X → Type 0) (xs ys : List X) (x : X) → OnOk r (ys ≡ xs ++ (x ∷ [])) → P x →
    OnOk r (All P xs → All P ys)
ok_pushed (Ok a) P xs ys x is h = pushed P xs ys x is h
ok_pushed (Err e) P xs ys x is h = is

pub ok_then : {A E : Type 0} (r : Result A E) (P Q R : Type 0) → (P → Q) → OnOk r (Q → R) → OnOk r (P → R)
ok_then (Ok a) P Q R f h = λ p. h (f p)
ok_then (Err e) P Q R f h = h

pub none_yet : {X : Type 0} (P : X → Type 0) (xs : List X) → xs ≡ [] → All P xs
none_yet P xs none = subst (All P) (sym none) (All-nil P)

pub all_parts : {X : Type 0} {F : X → Type 0} {g : _} (v : Evaluator X F g) (xs : List ExplainedPolicy) →
    All (IsWellExplained v) xs → All NamesParts xs
all_parts v xs h = All-weaker (IsWellExplained v) NamesParts (λ x w. w.parts) xs h

pub all_reached : {X : Type 0} {F : X → Type 0} {g : _} (v : Evaluator X F g) (xs : List ExplainedPolicy) →
    All (IsWellExplained v) xs → All (HasReached v) xs
all_reached v xs h = All-weaker (IsWellExplained v) (HasReached v) (λ x w. w.reached) xs h

pub all_decided : {X : Type 0} {F : X → Type 0} {g : _} (v : Evaluator X F g) (xs : List ExplainedPolicy) →
    All (IsWellExplained v) xs → All HasDecided xs
all_decided v xs h = All-weaker (IsWellExplained v) HasDecided (λ x w. w.decided) xs h

pub all_needed : {X : Type 0} {F : X → Type 0} {g : _} (v : Evaluator X F g) (xs : List ExplainedPolicy) →
    All (IsWellExplained v) xs → All HasNeeded xs
all_needed v xs h = All-weaker (IsWellExplained v) HasNeeded (λ x w. w.needed) xs h

pub all_of_permits : {X : Type 0} {F : X → Type 0} {g : _} (v : Evaluator X F g) (xs : List Lack) → All (IsLack v) xs →
    All IsOfPermit xs
all_of_permits v xs h = All-weaker (IsLack v) IsOfPermit (λ x w. w.of_permit) xs h

pub all_apply : {X : Type 0} {F : X → Type 0} {g : _} (v : Evaluator X F g) (xs : List Lack) → All (IsLack v) xs →
    All (WouldApply v) xs
all_apply v xs h = All-weaker (IsLack v) (WouldApply v) (λ x w. w.applies) xs h
