-- What is among names: the test on names is equality.
use Rattle.std.specs.Prelude.{◌≡◌, Bool, true, ◌||◌, ◌⊎◌, List, [], ◌∷◌, ◌++◌}
use Rattle.std.specs.Cmp.{IsEquivalence}
use Rattle.std.proofs.Common.{refl, sym, ap, ◌∙◌, inl, inr, ⊎_elim}
use Rattle.std.proofs.lemmas.Bool.{or_cases, or_left, or_right, true≢false}
use Rattle.std.proofs.Math.Bool.{or_assoc}
use Rattle.cedar_model.specs.Terms.{EntityName}
use Rattle.cedar_model.specs.Outcomes.{entity_eq}
use Rattle.cedar_model.specs.Settings.{is_among}
use Rattle.cedar_model.proofs.Injections.{same_bools}
use Rattle.cedar_names.specs.EqualityLaws.{entity_eq-decides}

pub entity_eq-self : (e : EntityName) → entity_eq e e ≡ true
entity_eq-self e = (entity_eq-decides e e).1 refl

entity_eq-back : (d e : EntityName) → entity_eq d e ≡ true → entity_eq e d ≡ true
entity_eq-back d e h = ap (λ (m : EntityName). entity_eq e m) ((entity_eq-decides d e).0 h) ∙ entity_eq-self e

pub entity_equivalence : IsEquivalence entity_eq
entity_equivalence = record {
  refl = entity_eq-self;
  symm = λ x y. same_bools _ _ (entity_eq-back x y) (entity_eq-back y x);
  congr = λ x y z h. ap (λ (m : EntityName). entity_eq m z) ((entity_eq-decides x y).0 h);
}

pub is_among-append : (n : EntityName) (ms ns : List EntityName) → is_among n (ms ++ ns) ≡ (is_among n ms || is_among n ns)
unfolding is_among
is_among-append n [] ns = refl
is_among-append n (m ∷ ms) ns =
    ap (λ (b : Bool). entity_eq n m || b) (is_among-append n ms ns) ∙ (sym (or_assoc (entity_eq n m) (is_among n ms) (is_among n ns)))

pub is_among-before : (n : EntityName) (ms ns : List EntityName) → is_among n ms ≡ true → is_among n (ms ++ ns) ≡ true
is_among-before n ms ns h = is_among-append n ms ns ∙ or_left _ _ h

pub is_among-behind : (n : EntityName) (ms ns : List EntityName) → is_among n ns ≡ true → is_among n (ms ++ ns) ≡ true
is_among-behind n ms ns h = is_among-append n ms ns ∙ or_right _ _ h

pub is_among-either : (n : EntityName) (ms ns : List EntityName) → is_among n (ms ++ ns) ≡ true → (is_among n ms ≡ true) ⊎ (is_among n ns ≡ true)
is_among-either n ms ns h = or_cases _ _ (sym (is_among-append n ms ns) ∙ h)

pub is_among-none : (n : EntityName) → is_among n [] ≡ true → ⊥
unfolding is_among
is_among-none n h = true≢false (sym h)

pub is_among-self : (n : EntityName) (ns : List EntityName) → is_among n (n ∷ ns) ≡ true
unfolding is_among
is_among-self n ns = or_left _ _ (entity_eq-self n)

pub is_among-cons : (n m : EntityName) (ns : List EntityName) → is_among n (m ∷ ns) ≡ true → (n ≡ m) ⊎ (is_among n ns ≡ true)
unfolding is_among
is_among-cons n m ns h = ⊎_elim (λ e. inl ((entity_eq-decides n m).0 e)) (λ e. inr e) (or_cases _ _ h)

pub is_among-one : (n m : EntityName) → is_among n (m ∷ []) ≡ true → n ≡ m
is_among-one n m h = ⊎_elim (λ e. e) (λ e. absurd (is_among-none n e)) (is_among-cons n m [] h)
