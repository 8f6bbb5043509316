-- A stable sort that then drops repetitions gives the canonical set: each element once, in order, of equal ones the first.
use Rattle.std.proofs.Common.{◌≡◌, Bool, true, false, cond, not, ◌&&◌, List, [], ◌∷◌, Option, Some, None, Less, Equal, Greater, Ordering, refl, sym, ap, ◌∙◌, subst}
use Rattle.std.specs.Ordering.{is_lt, is_eq, ordering_reverse}
use Rattle.std.specs.List.{filter, dedup, dedup_from, AllByRecursion}
use Rattle.std.specs.List.Retain.{IsFiltered, DiffersFromLast}
use Rattle.std.specs.List.Sorted.{IsSorted, IsStable, IsStrictlySortedBy, ties}
use Rattle.std.specs.Cmp.{IsTotalOrder}
use Rattle.std.proofs.lemmas.Cmp.{on_total}
use Rattle.std.proofs.lemmas.List.Filters.{dedup_is}
use Rattle.std.proofs.lemmas.List.Kept.{IsStrictlySortedBy-dedup}
use Rattle.cedar_model.specs.Values.{AbstractValue, Represented, RepresentedValues, no_represented, one_represented, abstract_value, abstract_values}
use Rattle.cedar_model.specs.Keys.{value_eq}
use Rattle.cedar_model.specs.lemmas.Keys.{value_eq-true, value_eq-self}
use Rattle.cedar_model.specs.Sets.{represented_values_of, canonical_set, find_equal, IsStrictlyInOrder, IsBelowFirst}
use Rattle.cedar_model.specs.lemmas.Sets.{list_of-represented_values_of, canonical_set-in_order, find_equal-canonical_set, IsStrictlyInOrder-canonical_set, same_finds}
use Rattle.cedar_values.specs.Sound.{Placed, whats, first_equal, in_front, each_first, firsts}
use Rattle.cedar_values.specs.Compared.{represented_cmp, represented_eq, represented_cmp-total}

abbrev pub cmp : Placed → Placed → Ordering
cmp p q = represented_cmp p.what q.what

abbrev eq : Placed → Placed → Bool
eq p q = represented_eq p.what q.what

abbrev lt : Placed → Placed → Bool
lt p q = is_lt (cmp p q)

-- the elements of a list
abbrev pub listed : List Placed → RepresentedValues
listed ps = represented_values_of (whats ps)

-- ---- what `dedup` keeps

chosen : (a : AbstractValue) (k x : Placed) (xs : List Placed) (b : Bool) → eq x k ≡ b → first_equal a (dedup_from eq k xs) ≡ cond (value_eq a (abstract_value k.what)) (Some k) (first_equal a xs) → first_equal a (dedup_from eq x xs) ≡ cond (value_eq a (abstract_value x.what)) (Some x) (first_equal a xs)
    → first_equal a (cond b (dedup_from eq k xs) (k ∷ dedup_from eq x xs)) ≡ cond (value_eq a (abstract_value k.what)) (Some k) (cond (value_eq a (abstract_value x.what)) (Some x) (first_equal a xs))
chosen a k x xs true e h g =
    h ∙ twice (value_eq a (abstract_value k.what)) ∙ ap (λ v. cond (value_eq a (abstract_value k.what)) (Some k) (cond (value_eq a v) (Some x) (first_equal a xs))) (sym (value_eq-true (abstract_value x.what) (abstract_value k.what) e))
  where
    twice : (c : Bool) → cond c (Some k) (first_equal a xs) ≡ cond c (Some k) (cond c (Some x) (first_equal a xs))
    twice true = refl
    twice false = refl
chosen a k x xs false e h g = ap (cond (value_eq a (abstract_value k.what)) (Some k)) g

first_equal-dedup_from : (a : AbstractValue) (k : Placed) (xs : List Placed) → first_equal a (dedup_from eq k xs) ≡ cond (value_eq a (abstract_value k.what)) (Some k) (first_equal a xs)
first_equal-dedup_from a k [] = refl
first_equal-dedup_from a k (x ∷ xs) =
    chosen a k x xs (eq x k) refl (first_equal-dedup_from a k xs) (first_equal-dedup_from a x xs)

first_equal-dedup : (a : AbstractValue) (xs : List Placed) → first_equal a (dedup eq xs) ≡ first_equal a xs
first_equal-dedup a [] = refl
first_equal-dedup a (x ∷ xs) = first_equal-dedup_from a x xs

-- ---- a stable sort keeps the first of equal elements

abbrev first_of : List Placed → Option Placed
first_of [] = None
first_of (p ∷ ps) = Some p

abbrev what_of : Option Placed → Option Represented
what_of None = None
what_of (Some p) = Some p.what

what_of-cond : (b : Bool) (p : Placed) (o : Option Placed) → what_of (cond b (Some p) o) ≡ cond b (Some p.what) (what_of o)
what_of-cond true p o = refl
what_of-cond false p o = refl

what_of-first_equal : (a : AbstractValue) (ps : List Placed) → what_of (first_equal a ps) ≡ find_equal a (listed ps)
what_of-first_equal a [] = refl
what_of-first_equal a (p ∷ ps) =
    what_of-cond (value_eq a (abstract_value p.what)) p (first_equal a ps) ∙ ap (cond (value_eq a (abstract_value p.what)) (Some p.what)) (what_of-first_equal a ps)

found : (a : AbstractValue) (p : Placed) (ps : List Placed) → first_equal a ps ≡ Some p → a ≡ abstract_value p.what
found a p [] e = absurd (cc)
found a p (q ∷ ps) e = by (value_eq a (abstract_value q.what)) refl e (found a p ps)
  where
    by : (b : Bool) → value_eq a (abstract_value q.what) ≡ b → cond b (Some q) (first_equal a ps) ≡ Some p → (first_equal a ps ≡ Some p → a ≡ abstract_value p.what) → a ≡ abstract_value p.what
    by true f g h =
        let same : q ≡ p = cc in
        value_eq-true a (abstract_value q.what) f ∙ ap (λ (r : Placed). abstract_value r.what) same
    by false f g h = h g

neither : (o : Ordering) → (not (is_lt o) && not (is_lt (ordering_reverse o))) ≡ is_eq o
neither Less = refl
neither Equal = refl
neither Greater = refl

ties-eq : (p q : Placed) → ties lt p q ≡ eq p q
ties-eq p q =
    ap (λ o. not (lt p q) && not (is_lt o)) (represented_cmp-total.antisymm q.what p.what) ∙ neither (cmp p q)

first_of-filter : (p : Placed) (ps : List Placed) → first_equal (abstract_value p.what) ps ≡ first_of (filter (ties lt p) ps)
first_of-filter p [] = refl
first_of-filter p (q ∷ ps) =
    ap (cond (eq p q) (Some q)) (first_of-filter p ps)
    ∙ (by (eq p q) ∙ ap (λ b. first_of (cond b (q ∷ filter (ties lt p) ps) (filter (ties lt p) ps))) (sym (ties-eq p q)))
  where
    by : (b : Bool) → cond b (Some q) (first_of (filter (ties lt p) ps)) ≡ first_of (cond b (q ∷ filter (ties lt p) ps) (filter (ties lt p) ps))
    by true = refl
    by false = refl

same_at : (p : Placed) (xs ys : List Placed) → IsStable cmp xs ys → first_equal (abstract_value p.what) ys ≡ first_equal (abstract_value p.what) xs
same_at p xs ys stable = first_of-filter p ys ∙ ap first_of (stable p) ∙ sym (first_of-filter p xs)

same_found : (a : AbstractValue) (xs ys : List Placed) → IsStable cmp xs ys → (o : Option Placed) → first_equal a xs ≡ o → (u : Option Placed) → first_equal a ys ≡ u → first_equal a ys ≡ first_equal a xs
same_found a xs ys stable (Some p) e u f =
    subst (λ b. first_equal b ys ≡ first_equal b xs) (sym (found a p xs e)) (same_at p xs ys stable)
same_found a xs ys stable None e (Some p) f =
    subst (λ b. first_equal b ys ≡ first_equal b xs) (sym (found a p ys f)) (same_at p xs ys stable)
same_found a xs ys stable None e None f = f ∙ sym e

first_equal-sorted : (a : AbstractValue) (xs ys : List Placed) → IsStable cmp xs ys → first_equal a ys ≡ first_equal a xs
first_equal-sorted a xs ys stable = same_found a xs ys stable (first_equal a xs) refl (first_equal a ys) refl

-- of equal elements the first of the list stays, with its location
first_equal-kept : (a : AbstractValue) (xs ys zs : List Placed) → IsStable cmp xs ys → IsFiltered (DiffersFromLast eq) [] ys zs → first_equal a zs ≡ first_equal a xs
first_equal-kept a xs ys zs stable kept =
    ap (first_equal a) (dedup_is eq ys zs kept) ∙ first_equal-dedup a ys ∙ first_equal-sorted a xs ys stable

-- ---- strictly sorted, it is strictly in order

below_first : (p : Placed) (ps : List Placed) → AllByRecursion (λ q. cmp p q ≡ Less) ps → IsBelowFirst (abstract_value p.what) (abstract_values (listed ps))
below_first p [] h = tt
below_first p (q ∷ ps) h = h.0

in_order : (ps : List Placed) → IsStrictlySortedBy cmp ps → IsStrictlyInOrder (listed ps)
unfolding IsStrictlySortedBy
in_order [] h = tt
in_order (p ∷ ps) h = (below_first p ps h.0, in_order ps h.1)

-- a list that is strictly in order is its own canonical set
pub canonical_set-listed : (ps : List Placed) → IsStrictlyInOrder (listed ps) → canonical_set (whats ps) ≡ listed ps
canonical_set-listed ps h =
    ap canonical_set (sym (list_of-represented_values_of (whats ps))) ∙ canonical_set-in_order (listed ps) h

pub cmp_total : IsTotalOrder cmp
cmp_total = on_total (λ (p : Placed). p.what) represented_cmp-total

rises : (ys zs : List Placed) → IsSorted cmp ys → IsFiltered (DiffersFromLast eq) [] ys zs → IsStrictlySortedBy cmp zs
rises ys zs sorted kept =
    subst (IsStrictlySortedBy cmp) (sym (dedup_is eq ys zs kept)) (IsStrictlySortedBy-dedup cmp_total (λ p q. refl) ys sorted)

-- after `sort` and `dedup` the list is its own canonical set
pub canonical_set-deduped : (ys zs : List Placed) → IsSorted cmp ys → IsFiltered (DiffersFromLast eq) [] ys zs → canonical_set (whats zs) ≡ listed zs
canonical_set-deduped ys zs sorted kept = canonical_set-listed zs (in_order zs (rises ys zs sorted kept))

-- and that of the list before
pub canonical_set-sorted : (xs ys zs : List Placed) → IsStable cmp xs ys → IsFiltered (DiffersFromLast eq) [] ys zs → canonical_set (whats zs) ≡ canonical_set (whats xs)
canonical_set-sorted xs ys zs stable kept =
    same_finds (canonical_set (whats zs)) (canonical_set (whats xs)) (IsStrictlyInOrder-canonical_set (whats zs)) (IsStrictlyInOrder-canonical_set (whats xs)) same
  where
    same : (a : AbstractValue) → find_equal a (canonical_set (whats zs)) ≡ find_equal a (canonical_set (whats xs))
    same a =
        find_equal-canonical_set a (whats zs) ∙ sym (what_of-first_equal a zs) ∙ ap what_of (first_equal-kept a xs ys zs stable kept) ∙ what_of-first_equal a xs ∙ sym (find_equal-canonical_set a (whats xs))

-- ---- of each element the first of the list before

each_first-same : (xs ys : List Placed) → ((a : AbstractValue) → first_equal a ys ≡ first_equal a xs) → (vs : RepresentedValues) → each_first ys vs ≡ each_first xs vs
each_first-same xs ys same no_represented = refl
each_first-same xs ys same (one_represented v vs) =
    λ i. in_front (same (abstract_value v) i) (each_first-same xs ys same vs i)

-- what is below all others is none of them
each_first-below : (q : Placed) (ps qs : List Placed) → AllByRecursion (λ r. cmp q r ≡ Less) qs → each_first (q ∷ ps) (listed qs) ≡ each_first ps (listed qs)
each_first-below q ps [] h = refl
each_first-below q ps (r ∷ qs) h =
    λ i. in_front (passed i) (each_first-below q ps qs h.1 i)
  where
    passed : first_equal (abstract_value r.what) (q ∷ ps) ≡ first_equal (abstract_value r.what) ps
    passed =
        ap (λ o. cond (is_eq o) (Some q) (first_equal (abstract_value r.what) ps)) (represented_cmp-total.antisymm r.what q.what) ∙ ap (λ o. cond (is_eq (ordering_reverse o)) (Some q) (first_equal (abstract_value r.what) ps)) h.0

-- where each element is above those before it, each is the first that equals it
each_first-own : (qs : List Placed) → IsStrictlySortedBy cmp qs → each_first qs (listed qs) ≡ qs
unfolding IsStrictlySortedBy
each_first-own [] h = refl
each_first-own (q ∷ qs) h =
    λ i. in_front (own i) ((each_first-below q qs qs h.0 ∙ each_first-own qs h.1) i)
  where
    own : first_equal (abstract_value q.what) (q ∷ qs) ≡ Some q
    own = ap (λ b. cond b (Some q) (first_equal (abstract_value q.what) qs)) (value_eq-self (abstract_value q.what))

pub firsts-sorted : (xs ys zs : List Placed) → IsSorted cmp ys → IsStable cmp xs ys → IsFiltered (DiffersFromLast eq) [] ys zs → zs ≡ firsts xs
firsts-sorted xs ys zs sorted stable kept =
    sym (each_first-own zs (rises ys zs sorted kept)) ∙ each_first-same xs zs (λ a. first_equal-kept a xs ys zs stable kept) (listed zs)
    ∙ ap (each_first xs) (sym (canonical_set-deduped ys zs sorted kept) ∙ canonical_set-sorted xs ys zs stable kept)
