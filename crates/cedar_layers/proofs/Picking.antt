-- The policies of a set at positions in order, and those between.
use Rattle.std.proofs.Common.{◌≡◌, ◌⊎◌, inl, inr, refl, sym, ap, ◌∙◌, subst, arith, ℕ, zero, suc, ◌+◌, ◌-◌, ◌<◌, ◌≤◌, ◌==◌, Bool, true, false, ◌||◌, List, [], ◌∷◌, ◌++◌, append_assoc, Some}
use Rattle.std.proofs.lemmas.Bool.{eqb-true}
use Rattle.std.proofs.lemmas.List.{append-nil}
use Rattle.std.specs.Prelude.{slice_get}
use Rattle.cedar_model.specs.Terms.{EntityName}
use Rattle.cedar_layers.specs.declared.policies.policy.Policy.{Policy}
use Rattle.cedar_layers.specs.declared.policies.scope_index.ScopeIndex.{ScopeIndex}
use Rattle.cedar_layers.specs.Policies.{policy_view}
use Rattle.cedar_layers.specs.Scopes.{AreAllBut, IsBoundElsewhere, AreWithinReach, has_position, ArePlaced, ReachesAll, ArePicked}
use Rattle.cedar_model.proofs.Injections.{some_inj, none_is_not_some}

-- what is left of a list behind so many
abbrev pub after : {A : Type 0} → ℕ → List A → List A
after zero xs = xs
after (suc n) [] = []
after (suc n) (x ∷ xs) = after n xs

module _ {A : Type 0} (Such : A → Type 0) where
  -- the one at this position is such, and may be left out
  skip_one : (i : ℕ) (xs ys : List A) → ((x : A) → slice_get xs i ≡ Some x → Such x) → AreAllBut Such (after (suc i) xs) ys → AreAllBut Such (after i xs) ys
  skip_one zero [] ys such h = h
  skip_one zero (x ∷ xs) ys such h = inl (such x refl, h)
  skip_one (suc i) [] ys such h = h
  skip_one (suc i) (x ∷ xs) ys such h = skip_one i xs ys such h

  take_one : (i : ℕ) (xs ys : List A) (x : A) → slice_get xs i ≡ Some x → AreAllBut Such (after (suc i) xs) ys → AreAllBut Such (after i xs) (x ∷ ys)
  take_one zero [] ys x e h = absurd (none_is_not_some e)
  take_one zero (y ∷ xs) ys x e h = inr (ys, ap (λ (z : A). z ∷ ys) (sym (some_inj e)), h)
  take_one (suc i) [] ys x e h = absurd (none_is_not_some e)
  take_one (suc i) (y ∷ xs) ys x e h = take_one i xs ys x e h

  -- so many are such, one after another
  skip_many : (k i : ℕ) (xs ys : List A) → ((j : ℕ) (x : A) → i ≤ j → j < i + k → slice_get xs j ≡ Some x → Such x) → AreAllBut Such (after (i + k) xs) ys → AreAllBut Such (after i xs) ys
  skip_many zero i xs ys such h =
      let e : i + zero ≡ i = omega arith in
      subst (λ n. AreAllBut Such (after n xs) ys) e h
  skip_many (suc k) i xs ys such h =
      let e : i + suc k ≡ suc i + k = omega arith in
      let here : i < i + suc k = omega arith in
      skip_one i xs ys (λ x f. such i x (omega arith) here f)
      (skip_many k (suc i) xs ys (λ j x low high f. such j x (omega (arith, low)) (omega (arith, high)) f) (subst (λ n. AreAllBut Such (after n xs) ys) e h))

  nothing_after : (n : ℕ) → AreAllBut Such (after n []) []
  nothing_after zero = refl
  nothing_after (suc n) = refl

  -- all that are left are such
  skip_rest : (xs : List A) (i : ℕ) → ((j : ℕ) (x : A) → i ≤ j → slice_get xs j ≡ Some x → Such x) → AreAllBut Such (after i xs) []
  skip_rest [] i such = nothing_after i
  skip_rest (x ∷ xs) zero such =
      inl (such zero x (omega arith) refl, skip_rest xs zero (λ j y low e. such (suc j) y (omega arith) e))
  skip_rest (x ∷ xs) (suc i) such = skip_rest xs i (λ j y low e. such (suc j) y (omega (arith, low)) e)

differ : (i n : ℕ) → (i ≡ n → ⊥) → (i == n) ≡ false
differ i n apart = by (i == n) refl
  where
    by : (b : Bool) → (i == n) ≡ b → (i == n) ≡ false
    by true e = absurd (apart (eqb-true i n e))
    by false e = e

or_behind : (b c : Bool) → b ≡ false → (b || c) ≡ c
or_behind true c e = absurd (cc)
or_behind false c e = refl

-- the policies before `next` are picked, but for some, where no other position is to come than the last
pub record ArePickedSoFar (ns : List ℕ) (all done : List Policy) (next : ℕ) (left : List ℕ) : Type 0 where
  pub same : (i : ℕ) → next ≤ i → has_position i ns ≡ has_position i left
  pub follows : (index : ScopeIndex) (es : List EntityName) → ArePlaced index all → ReachesAll index es ns
      → ((i : ℕ) → i + 1 < next → has_position i left ≡ false)
      → (more : List Policy) → AreWithinReach es (after next all) more → AreWithinReach es all (done ++ more)

module _ (ns : List ℕ) (all done : List Policy) (next : ℕ) (left rest : List ℕ) (at : ℕ) (first : left ≡ at ∷ rest) (before : ArePickedSoFar ns all done next left) where
  left_at : (i : ℕ) → (i ≡ at → ⊥) → has_position i left ≡ has_position i rest
  left_at i apart = ap (has_position i) first ∙ or_behind (i == at) (has_position i rest) (differ i at apart)

  -- the last position again
  pub picked_again : at + 1 ≡ next → ArePickedSoFar ns all done next rest
  picked_again e = record {
    same = λ i low. before.same i low ∙ left_at i (λ h. omega (arith, e, low, h));
    follows = λ index es placed reached gone more h.
        before.follows index es placed reached (λ i low. left_at i (λ f. omega (arith, e, low, f)) ∙ gone i low) more h;
  }

  -- another position
  pub picked_more : (p : Policy) → next ≤ at → slice_get all at ≡ Some p → ArePickedSoFar ns all (done ++ p ∷ []) (at + 1) rest
  picked_more p low here = record {
    same = λ i above. before.same i (omega (arith, low, above)) ∙ left_at i (λ h. omega (arith, above, h));
    follows = λ index es placed reached gone more h.
        let Such : Policy → Type 0 = λ q. IsBoundElsewhere es (policy_view q) in
        let next_is : suc at ≡ at + 1 = omega arith in
        let taken : AreAllBut Such (after at all) (p ∷ more) =
        take_one Such at all more p here (subst (λ n. AreAllBut Such (after n all) more) (sym next_is) h) in
        let width : next + (at - next) ≡ at = omega (arith, low) in
        let between : AreAllBut Such (after next all) (p ∷ more) =
        skip_many Such (at - next) next all (p ∷ more)
        (λ j q from below e. reached j (policy_view q) (placed j q e)
        (before.same j from ∙ left_at j (λ f. omega (arith, below, width, f)) ∙ gone j (omega (arith, below, width))))
        (subst (λ n. AreAllBut Such (after n all) (p ∷ more)) (sym width) taken) in
        subst (AreAllBut Such all) (sym (append_assoc done (p ∷ []) more))
        (before.follows index es placed reached
        (λ i under. left_at i (λ f. omega (arith, under, low, f)) ∙ gone i (omega (arith, under, low))) (p ∷ more) between);
  }

pub picked_all : (ns : List ℕ) (all done : List Policy) (next : ℕ) (left : List ℕ) → left ≡ [] → ArePickedSoFar ns all done next left → ArePicked ns all done
picked_all ns all done next left none before index es placed reached =
    let gone : (i : ℕ) → has_position i left ≡ false = λ i. ap (has_position i) none in
    let h = before.follows index es placed reached (λ i low. gone i) []
    (skip_rest (λ p. IsBoundElsewhere es (policy_view p)) all next (λ j p low e. reached j (policy_view p) (placed j p e) (before.same j low ∙ gone j))) in
    subst (AreWithinReach es all) (append-nil done) h
