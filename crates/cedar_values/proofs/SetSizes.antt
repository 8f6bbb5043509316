-- How large a set is against what is in it, and that it does not matter which of two sets is walked over.
use Rattle.std.proofs.Common.{◌≡◌, ℕ, ◌+◌, ◌<◌, ◌≤◌, Bool, true, false, ◌||◌, ◌&&◌, [], ◌∷◌, length, refl, sym, ap, ◌∙◌, ⊎_elim, Less, arith}
use Rattle.std.proofs.lemmas.Bool.{or_cases, and_parts, true≢false}
use Rattle.std.proofs.lemmas.Map.Keys.{IsDistinct-from_sorted}
use Rattle.std.proofs.lemmas.Map.Made.{length-le_from_is_member}
use Rattle.std.specs.List.{AllByRecursion}
use Rattle.std.specs.List.Sorted.{IsStrictlySortedBy}
use Rattle.std.specs.Set.{is_member}
use Rattle.cedar_model.specs.Values.{AbstractValue, AbstractValues, no_values, one_value, RepresentedValues, no_represented, one_represented, abstract_values}
use Rattle.cedar_model.specs.Keys.{value_cmp, value_eq}
use Rattle.cedar_model.specs.lemmas.Keys.{value_cmp-total, value_eq-true, value_eq-equivalence}
use Rattle.cedar_model.specs.Sets.{has_value, list_of_abstract, IsBelowFirst, AreInOrder, IsStrictlyInOrder}
use Rattle.cedar_model.specs.Meaning.{has_each, has_some}
use Rattle.cedar_values.specs.Members.{values_count}

-- ---- what is in order has no value twice

lower : (b c : AbstractValue) (cs : AbstractValues) → value_cmp b c ≡ Less → IsBelowFirst c cs → IsBelowFirst b cs
lower b c no_values h k = tt
lower b c (one_value d ds) h k = value_cmp-total.trans b c d h k

below : (b : AbstractValue) (bs : AbstractValues) → IsBelowFirst b bs → AreInOrder bs → AllByRecursion (λ c. value_cmp b c ≡ Less) (list_of_abstract bs)
below b no_values h k = tt
below b (one_value c cs) h k = (h, below b cs (lower b c cs h k.0) k.1)

rising : (bs : AbstractValues) → AreInOrder bs → IsStrictlySortedBy value_cmp (list_of_abstract bs)
unfolding IsStrictlySortedBy
rising no_values h = tt
rising (one_value b bs) h = (below b bs h.0 h.1, rising bs h.1)

-- ---- a set that is larger is in no other

member : (q : AbstractValue) (bs : AbstractValues) → is_member value_eq (list_of_abstract bs) q ≡ has_value q bs
member q no_values = refl
member q (one_value b bs) = ap (λ t. value_eq q b || t) (member q bs)

each_member : (us bs : AbstractValues) (q : AbstractValue) → has_each us bs ≡ true → has_value q us ≡ true → has_value q bs ≡ true
unfolding has_each
each_member no_values bs q h k = absurd (true≢false (sym k))
each_member (one_value a us) bs q h k =
    let parts : (has_value a bs ≡ true) × (has_each us bs ≡ true) = and_parts _ _ h in
    ⊎_elim (λ (e : value_eq q a ≡ true). ap (λ v. has_value v bs) (value_eq-true q a e) ∙ parts.0) (λ (e : has_value q us ≡ true). each_member us bs q parts.1 e) (or_cases _ _ k)

count : (vs : RepresentedValues) → length (list_of_abstract (abstract_values vs)) ≡ values_count vs
count no_represented = refl
count (one_represented v vs) = omega (arith, count vs)

within : (vs ws : RepresentedValues) → IsStrictlyInOrder vs → has_each (abstract_values vs) (abstract_values ws) ≡ true → values_count vs ≤ values_count ws
within vs ws h e =
    let us = list_of_abstract (abstract_values vs) in
    let bs = list_of_abstract (abstract_values ws) in
    let fits : length us ≤ length bs = length-le_from_is_member value_eq-equivalence us bs (IsDistinct-from_sorted value_cmp us (rising (abstract_values vs) h)) (λ q m. member q (abstract_values ws) ∙ each_member (abstract_values vs) (abstract_values ws) q e (sym (member q (abstract_values vs)) ∙ m)) in
    omega (arith, fits, count vs, count ws)

pub has_each-larger : (vs ws : RepresentedValues) → IsStrictlyInOrder vs → values_count ws < values_count vs → false ≡ has_each (abstract_values vs) (abstract_values ws)
has_each-larger vs ws h l = by (has_each (abstract_values vs) (abstract_values ws)) refl
  where
    by : (b : Bool) → has_each (abstract_values vs) (abstract_values ws) ≡ b → false ≡ b
    by false e = refl
    by true e = absurd (omega (arith, l, within vs ws h e))

-- ---- two sets have a value in common, whichever is walked over

or_moved : (p q r s : Bool) → ((p || q) || (r || s)) ≡ ((p || r) || (q || s))
or_moved true q r s = refl
or_moved false true true s = refl
or_moved false true false s = refl
or_moved false false r s = refl

has_some-none : (us : AbstractValues) → has_some us no_values ≡ false
unfolding has_some
has_some-none no_values = refl
has_some-none (one_value a us) = has_some-none us

has_some-one : (us : AbstractValues) (b : AbstractValue) (bs : AbstractValues) → has_some us (one_value b bs) ≡ (has_value b us || has_some us bs)
unfolding has_some
has_some-one no_values b bs = refl
has_some-one (one_value a us) b bs =
    ap (λ t. (value_eq a b || has_value a bs) || t) (has_some-one us b bs)
    ∙ or_moved (value_eq a b) (has_value a bs) (has_value b us) (has_some us bs)
    ∙ ap (λ t. (t || has_value b us) || (has_value a bs || has_some us bs)) (value_eq-equivalence.symm a b)

pub has_some-turned : (us bs : AbstractValues) → has_some us bs ≡ has_some bs us
unfolding has_some
has_some-turned us no_values = has_some-none us
has_some-turned us (one_value b bs) =
    has_some-one us b bs ∙ ap (λ t. has_value b us || t) (has_some-turned us bs)
