-- Membership in sets, by a binary search and by loops.
use Rattle.std.proofs.Common.{◌≡◌, ℕ, zero, suc, ◌+◌, ◌<◌, ◌≤◌, Bool, true, false, not, ◌||◌, ◌&&◌, nat_eq, List, [], ◌∷◌, length, get_or, drop, Result, Ok, Err, is_ok, Less, Equal, Greater, Ordering, refl, sym, ap, ◌∙◌, subst, ⊎_elim, arith}
use Rattle.std.specs.Ordering.{is_lt, is_eq, ordering_reverse}
use Rattle.std.specs.List.Sorted.{IsSorted, IsBinarySearchResult, IsSearchInRange, IsPartitionPoint}
use Rattle.std.proofs.lemmas.List.Sorted.{searchable_from_sorted}
use Rattle.std.proofs.lemmas.List.{at_drop_more, at_drop_all}
use Rattle.std.proofs.lemmas.Bool.{cases_lt}
use Rattle.std.proofs.lemmas.Bool.Decides.{nat_tests}
use Rattle.std.proofs.Math.Bool.{or-true}
use Rattle.cedar_model.specs.Values.{AbstractValues, RepresentedValues, abstract_value, abstract_values}
use Rattle.cedar_model.specs.Keys.{value_eq}
use Rattle.cedar_model.specs.Sets.{has_value, IsStrictlyInOrder}
use Rattle.cedar_values.specs.Sound.{Placed}
use Rattle.cedar_values.specs.Compared.{represented_cmp-total}
use Rattle.cedar_model.specs.Meaning.{is_empty, has_each, has_some}
use Rattle.cedar_values.specs.Members.{values_count}
use Rattle.cedar_values.proofs.SetOrder.{listed, cmp, cmp_total}

pub length-listed : (ps : List Placed) (vs : RepresentedValues) → listed ps ≡ vs → length ps ≡ values_count vs
length-listed ps vs e = at ps ∙ ap values_count e
  where
    at : (ps : List Placed) → length ps ≡ values_count (listed ps)
    at [] = refl
    at (p ∷ ps) = omega (arith, at ps)

pub empty-listed : (ps : List Placed) (vs : RepresentedValues) → listed ps ≡ vs → nat_eq (length ps) 0 ≡ is_empty (abstract_values vs)
unfolding is_empty
empty-listed ps vs e = at ps ∙ ap (λ us. is_empty (abstract_values us)) e
  where
    at : (ps : List Placed) → nat_eq (length ps) 0 ≡ is_empty (abstract_values (listed ps))
    at [] = refl
    at (p ∷ ps) = grind (arith, nat_tests)

-- whether the values of a list have one that equals x
abbrev pub has : Placed → List Placed → Bool
has x ps = has_value (abstract_value x.what) (abstract_values (listed ps))

has_one : (x p : Placed) (b : Bool) → cmp p x ≡ Equal → (value_eq (abstract_value x.what) (abstract_value p.what) || b) ≡ true
has_one x p b e = ap (λ o. is_eq o || b) (represented_cmp-total.antisymm x.what p.what ∙ ap ordering_reverse e)

has-found : (x : Placed) (ps : List Placed) (k : ℕ) → k < length ps → ((d : Placed) → cmp (get_or ps k d) x ≡ Equal) → has x ps ≡ true
has-found x [] k h f = absurd (omega arith)
has-found x (p ∷ ps) zero h f = has_one x p (has x ps) (f x)
has-found x (p ∷ ps) (suc k) h f =
    ap (λ b. value_eq (abstract_value x.what) (abstract_value p.what) || b) (has-found x ps k (omega arith) f) ∙ or-true (value_eq (abstract_value x.what) (abstract_value p.what))

differs : (o : Ordering) → (o ≡ Equal → ⊥) → is_eq (ordering_reverse o) ≡ false
differs Less f = refl
differs Equal f = absurd (f refl)
differs Greater f = refl

lacks-all : (x : Placed) (ps : List Placed) → ((k : ℕ) → k < length ps → cmp (get_or ps k x) x ≡ Equal → ⊥) → has x ps ≡ false
lacks-all x [] f = refl
lacks-all x (p ∷ ps) f =
    ap (λ b. b || has x ps) (ap is_eq (represented_cmp-total.antisymm x.what p.what) ∙ differs (cmp p x) (f 0 (omega arith)))
    ∙ lacks-all x ps (λ k h. f (suc k) (omega arith))

sorted-first : (o : Ordering) → o ≡ Less → is_lt (ordering_reverse o) ≡ false
sorted-first o e = ap (λ x. is_lt (ordering_reverse x)) e

sorted-listed : (ps : List Placed) → IsStrictlyInOrder (listed ps) → IsSorted cmp ps
sorted-listed [] h k d l m = absurd (omega arith)
sorted-listed (p ∷ []) h k d l m = absurd (omega arith)
sorted-listed (p ∷ q ∷ ps) h zero d l m =
    ap is_lt (represented_cmp-total.antisymm q.what p.what) ∙ sorted-first (cmp p q) h.0
sorted-listed (p ∷ q ∷ ps) h (suc k) d l m =
    let e : suc k + 1 ≡ suc (k + 1) = omega arith in
    subst (λ n. is_lt (cmp (get_or (p ∷ q ∷ ps) n d) (get_or (q ∷ ps) k d)) ≡ false) (sym e) (sorted-listed (q ∷ ps) h.1 k d (omega arith) (omega arith))

not_both : (o p : Ordering) → o ≡ p → o ≡ Equal → (p ≡ Equal → ⊥) → ⊥
not_both o p e f g = g (sym e ∙ f)

apart : (x : Placed) (ps : List Placed) (i k : ℕ) → IsPartitionPoint (λ y. cmp y x ≡ Less) (λ y. cmp y x ≡ Greater) ps i → k < length ps → cmp (get_or ps k x) x ≡ Equal → ⊥
apart x ps i k f l e =
    ⊎_elim (λ (h : k < i). not_both (cmp (get_or ps k x) x) Less (f.0 k x (omega arith) h) e (λ g. cc)) (λ (h : i ≤ k). not_both (cmp (get_or ps k x) x) Greater (f.1 k x h l) e (λ g. cc)) (cases_lt k i)

pub is_ok-searched : (x : Placed) (ps : List Placed) (r : Result ℕ ℕ) → IsStrictlyInOrder (listed ps) → IsSearchInRange r (length ps) → IsBinarySearchResult (λ y. cmp y x) ps r → is_ok r ≡ has x ps
is_ok-searched x ps (Ok i) h b f = sym (has-found x ps i b f)
is_ok-searched x ps (Err i) h b f =
    sym (lacks-all x ps (λ k l e. apart x ps i k (f (searchable_from_sorted cmp_total (λ (y : Placed). y) ps x (sorted-listed ps h))) l e))

-- ---- loops over the elements

module _ (bs : AbstractValues) where
  abbrev pub each : List Placed → Bool
  each ps = has_each (abstract_values (listed ps)) bs

  abbrev pub none : List Placed → Bool
  none ps = not (has_some (abstract_values (listed ps)) bs)

  each-cons : (p : Placed) (ps : List Placed) (b : Bool) → has_value (abstract_value p.what) bs ≡ b → each (p ∷ ps) ≡ (b && each ps)
  unfolding has_each
  each-cons p ps b e = ap (λ t. t && each ps) e

  none-cons : (p : Placed) (ps : List Placed) (b : Bool) → has_value (abstract_value p.what) bs ≡ b → none (p ∷ ps) ≡ not (b || has_some (abstract_values (listed ps)) bs)
  unfolding has_some
  none-cons p ps b e = ap (λ t. not (t || has_some (abstract_values (listed ps)) bs)) e

  module _ (ps : List Placed) (i : ℕ) (x : Placed) (h : i < length ps) (e : x ≡ get_or ps i x) where
    pub has_each-more : has_value (abstract_value x.what) bs ≡ true → each (drop (i + 1) ps) ≡ each (drop i ps)
    has_each-more f =
        sym (at_drop_more each ps i x h ∙ ap (λ (y : Placed). each (y ∷ drop (i + 1) ps)) (sym e) ∙ each-cons x (drop (i + 1) ps) true f)

    pub has_each-fails : has_value (abstract_value x.what) bs ≡ false → each (drop i ps) ≡ false
    has_each-fails f =
        at_drop_more each ps i x h ∙ ap (λ (y : Placed). each (y ∷ drop (i + 1) ps)) (sym e) ∙ each-cons x (drop (i + 1) ps) false f

    pub has_some-more : has_value (abstract_value x.what) bs ≡ false → none (drop (i + 1) ps) ≡ none (drop i ps)
    has_some-more f =
        sym (at_drop_more none ps i x h ∙ ap (λ (y : Placed). none (y ∷ drop (i + 1) ps)) (sym e) ∙ none-cons x (drop (i + 1) ps) false f)

    pub has_some-fails : has_value (abstract_value x.what) bs ≡ true → none (drop i ps) ≡ false
    has_some-fails f =
        at_drop_more none ps i x h ∙ ap (λ (y : Placed). none (y ∷ drop (i + 1) ps)) (sym e) ∙ none-cons x (drop (i + 1) ps) true f

  pub has_each-end : (ps : List Placed) (i : ℕ) → length ps ≤ i → each (drop i ps) ≡ true
  unfolding has_each
  has_each-end ps i h = at_drop_all each ps i h

  pub has_some-end : (ps : List Placed) (i : ℕ) → length ps ≤ i → none (drop i ps) ≡ true
  unfolding has_some
  has_some-end ps i h = at_drop_all none ps i h

pub ruleset members = (has_each-more, has_each-fails, has_each-end, has_some-more, has_some-fails, has_some-end)
