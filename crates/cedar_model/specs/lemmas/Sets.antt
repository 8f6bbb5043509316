-- What follows of canonical sets: their order, their members, and which of equal elements stays.
use Rattle.std.specs.Prelude.{◌≡◌, ◌<◌, Bool, true, false, cond, ◌||◌, List, [], ◌∷◌, map, Option, Some, None}
use Rattle.std.specs.declared.cmp.Ordering.{Ordering}
use Rattle.std.specs.declared.cmp.Ordering.TheVariants.{Less, Equal, Greater}
use Rattle.std.specs.Ordering.{match_ordering, ordering_reverse, is_eq, Ordering-set}
use Rattle.std.proofs.Common.{refl, sym, ap, ◌∙◌, subst, arith}
use Rattle.std.proofs.Math.Bool.{or-false}
use Rattle.cedar_model.specs.Terms.{Text}
use Rattle.cedar_model.specs.Values.{AbstractValue, AbstractValues, no_values, one_value, Represented}
use Rattle.cedar_model.specs.Values.{plain_represented, set_represented, record_represented, extension_represented}
use Rattle.cedar_model.specs.Values.{RepresentedValues, no_represented, one_represented, RepresentedFields}
use Rattle.cedar_model.specs.Values.{no_represented_at, one_represented_at, abstract_value, abstract_values}
use Rattle.cedar_model.specs.Keys.{value_cmp, value_eq}
use Rattle.cedar_model.specs.lemmas.Keys.{value_cmp-total, value_cmp-equal, value_eq-true, value_eq-self}
use Rattle.cedar_model.specs.Sets.{AreCanonical, AreCanonicalAt, AreInOrder, IsBelowFirst, IsCanonical}
use Rattle.cedar_model.specs.Sets.{IsStrictlyInOrder, abstract_set, abstract_values_of, canonical_set, find_equal}
use Rattle.cedar_model.specs.Sets.{has_value, insert_each, insert_each_value, insert_represented, insert_value}
use Rattle.cedar_model.specs.Sets.{list_of_abstract, list_of_represented, represented_fields_size, represented_size}
use Rattle.cedar_model.specs.Sets.{represented_values_of, represented_values_size}

-- ---- lists of values

pub represented_values_of-list_of : (vs : RepresentedValues) → represented_values_of (list_of_represented vs) ≡ vs
represented_values_of-list_of no_represented = refl
represented_values_of-list_of (one_represented v vs) = ap (one_represented v) (represented_values_of-list_of vs)

pub list_of-represented_values_of : (vs : List Represented) → list_of_represented (represented_values_of vs) ≡ vs
list_of-represented_values_of [] = refl
list_of-represented_values_of (v ∷ vs) = ap (λ ws. v ∷ ws) (list_of-represented_values_of vs)

-- ---- order and canonical sets are facts without content

IsBelowFirst-prop : (a : AbstractValue) (bs : AbstractValues) → IsProp (IsBelowFirst a bs)
IsBelowFirst-prop a no_values = hlevel
IsBelowFirst-prop a (one_value b bs) = Ordering-set (value_cmp a b) Less

pub AreInOrder-prop : (bs : AbstractValues) → IsProp (AreInOrder bs)
AreInOrder-prop no_values = hlevel
AreInOrder-prop (one_value b bs) = hlevel (IsBelowFirst-prop b bs, AreInOrder-prop bs)

pub IsStrictlyInOrder-prop : (vs : RepresentedValues) → IsProp (IsStrictlyInOrder vs)
IsStrictlyInOrder-prop vs = AreInOrder-prop (abstract_values vs)

mutual
  pub IsCanonical-prop : (v : Represented) → IsProp (IsCanonical v)
  IsCanonical-prop (plain_represented l) = hlevel
  IsCanonical-prop (set_represented vs) = hlevel (IsStrictlyInOrder-prop vs, AreCanonical-prop vs)
  IsCanonical-prop (record_represented fs) = AreCanonicalAt-prop fs
  IsCanonical-prop (extension_represented t k f ts) = hlevel

  pub AreCanonical-prop : (vs : RepresentedValues) → IsProp (AreCanonical vs)
  AreCanonical-prop no_represented = hlevel
  AreCanonical-prop (one_represented v vs) = hlevel (IsCanonical-prop v, AreCanonical-prop vs)

  pub AreCanonicalAt-prop : (fs : RepresentedFields) → IsProp (AreCanonicalAt fs)
  AreCanonicalAt-prop no_represented_at = hlevel
  AreCanonicalAt-prop (one_represented_at k v fs) = hlevel (IsCanonical-prop v, AreCanonicalAt-prop fs)

-- ---- an insertion keeps the order

turned : (a b : AbstractValue) → value_cmp a b ≡ Greater → value_cmp b a ≡ Less
turned a b e = value_cmp-total.antisymm b a ∙ ap ordering_reverse e

below_chosen : (b a c : AbstractValue) (cs rest : AbstractValues) (o : Ordering) → value_cmp b a ≡ Less
    → value_cmp b c ≡ Less → IsBelowFirst b
    (match_ordering o (one_value a (one_value c cs)) (one_value c cs) (one_value c rest))
below_chosen b a c cs rest Less e f = e
below_chosen b a c cs rest Equal e f = f
below_chosen b a c cs rest Greater e f = f

below_insert : (b a : AbstractValue) (cs : AbstractValues) → value_cmp b a ≡ Less → IsBelowFirst b cs
    → IsBelowFirst b (insert_value a cs)
below_insert b a no_values e h = e
below_insert b a (one_value c cs) e h = below_chosen b a c cs (insert_value a cs) (value_cmp a c) e h

insert_in_order_by : (a b : AbstractValue) (bs : AbstractValues) (o : Ordering) → value_cmp a b ≡ o
    → AreInOrder (one_value b bs) → AreInOrder (insert_value a bs)
    → AreInOrder (match_ordering o (one_value a (one_value b bs)) (one_value b bs) (one_value b (insert_value a bs)))
insert_in_order_by a b bs Less e h k = (e, h)
insert_in_order_by a b bs Equal e h k = h
insert_in_order_by a b bs Greater e h k = (below_insert b a bs (turned a b e) h.0, k)

pub AreInOrder-insert_value : (a : AbstractValue) (bs : AbstractValues) → AreInOrder bs → AreInOrder (insert_value a bs)
AreInOrder-insert_value a no_values h = (tt, tt)
AreInOrder-insert_value a (one_value b bs) h =
    insert_in_order_by a b bs (value_cmp a b) refl h (AreInOrder-insert_value a bs h.1)

pub AreInOrder-insert_each_value : (vs : List AbstractValue) (bs : AbstractValues) → AreInOrder bs
    → AreInOrder (insert_each_value vs bs)
AreInOrder-insert_each_value [] bs h = h
AreInOrder-insert_each_value (v ∷ vs) bs h =
    AreInOrder-insert_each_value vs (insert_value v bs) (AreInOrder-insert_value v bs h)

pub AreInOrder-abstract_set : (vs : List AbstractValue) → AreInOrder (abstract_set vs)
AreInOrder-abstract_set vs = AreInOrder-insert_each_value vs no_values tt

-- ---- with representations and without, the insertion is the same

abstract_chosen : (o : Ordering) (x y z : RepresentedValues)
    → abstract_values (match_ordering o x y z)
    ≡ match_ordering o (abstract_values x) (abstract_values y) (abstract_values z)
abstract_chosen Less x y z = refl
abstract_chosen Equal x y z = refl
abstract_chosen Greater x y z = refl

pub abstract_values-insert_represented : (v : Represented) (ws : RepresentedValues)
    → abstract_values (insert_represented v ws) ≡ insert_value (abstract_value v) (abstract_values ws)
abstract_values-insert_represented v no_represented = refl
abstract_values-insert_represented v (one_represented w ws) =
    abstract_chosen (value_cmp (abstract_value v) (abstract_value w)) (one_represented v (one_represented w ws))
    (one_represented w ws) (one_represented w (insert_represented v ws))
    ∙ ap (λ x. match_ordering (value_cmp (abstract_value v) (abstract_value w))
    (one_value (abstract_value v) (one_value (abstract_value w) (abstract_values ws)))
    (one_value (abstract_value w) (abstract_values ws)) (one_value (abstract_value w) x))
    (abstract_values-insert_represented v ws)

pub abstract_values-insert_each : (vs : List Represented) (ws : RepresentedValues)
    → abstract_values (insert_each vs ws) ≡ insert_each_value (map abstract_value vs) (abstract_values ws)
abstract_values-insert_each [] ws = refl
abstract_values-insert_each (v ∷ vs) ws =
    abstract_values-insert_each vs (insert_represented v ws)
    ∙ ap (insert_each_value (map abstract_value vs)) (abstract_values-insert_represented v ws)

pub abstract_values-canonical_set : (vs : List Represented)
    → abstract_values (canonical_set vs) ≡ abstract_set (map abstract_value vs)
abstract_values-canonical_set vs = abstract_values-insert_each vs no_represented

pub IsStrictlyInOrder-insert_represented : (v : Represented) (ws : RepresentedValues) → IsStrictlyInOrder ws
    → IsStrictlyInOrder (insert_represented v ws)
IsStrictlyInOrder-insert_represented v ws h =
    subst AreInOrder (sym (abstract_values-insert_represented v ws))
    (AreInOrder-insert_value (abstract_value v) (abstract_values ws) h)

pub IsStrictlyInOrder-canonical_set : (vs : List Represented) → IsStrictlyInOrder (canonical_set vs)
IsStrictlyInOrder-canonical_set vs =
    subst AreInOrder (sym (abstract_values-canonical_set vs)) (AreInOrder-abstract_set (map abstract_value vs))

-- ---- what a canonical set has

abbrev pub or_else : Option Represented → Option Represented → Option Represented
or_else None o = o
or_else (Some v) o = Some v

or_else-none : (o : Option Represented) → or_else o None ≡ o
or_else-none None = refl
or_else-none (Some v) = refl

or_else-assoc : (o p q : Option Represented) → or_else (or_else o p) q ≡ or_else o (or_else p q)
or_else-assoc None p q = refl
or_else-assoc (Some v) p q = refl

-- what stands below the first of an ordered list is not in it
below_all : (a : AbstractValue) (ws : RepresentedValues) → IsBelowFirst a (abstract_values ws) → IsStrictlyInOrder ws
    → find_equal a ws ≡ None
below_all a no_represented e h = refl
below_all a (one_represented w ws) e h =
    ap (λ o. cond (is_eq o) (Some w) (find_equal a ws)) e ∙ below_all a ws (below_rest (abstract_values ws) h.0) h.1
  where
    below_rest : (bs : AbstractValues) → IsBelowFirst (abstract_value w) bs → IsBelowFirst a bs
    below_rest no_values f = tt
    below_rest (one_value b bs) f = value_cmp-total.trans a (abstract_value w) b e f

-- the value itself, where it is that one
abbrev pub if_equal : AbstractValue → Represented → Option Represented
if_equal a v = cond (value_eq a (abstract_value v)) (Some v) None

or_else-if_equal : (a : AbstractValue) (v : Represented) (o : Option Represented)
    → or_else (if_equal a v) o ≡ cond (value_eq a (abstract_value v)) (Some v) o
or_else-if_equal a v o = by (value_eq a (abstract_value v))
  where
    by : (b : Bool) → or_else (cond b (Some v) None) o ≡ cond b (Some v) o
    by true = refl
    by false = refl

module _ (a : AbstractValue) (v w : Represented) (ws : RepresentedValues) where
  find_at_less : (b : Bool) → value_eq a (abstract_value v) ≡ b → value_cmp (abstract_value v) (abstract_value w) ≡ Less
      → IsStrictlyInOrder (one_represented w ws)
      → cond b (Some v) (find_equal a (one_represented w ws))
      ≡ or_else (find_equal a (one_represented w ws)) (cond b (Some v) None)
  find_at_less true e f h =
      let g : value_cmp a (abstract_value w) ≡ Less =
      ap (λ x. value_cmp x (abstract_value w)) (value_eq-true a (abstract_value v) e) ∙ f in
      sym (ap (λ x. or_else x (Some v)) (below_all a (one_represented w ws) g h))
  find_at_less false e f h = sym (or_else-none (find_equal a (one_represented w ws)))

  find_at_equal : (b : Bool) → value_eq a (abstract_value w) ≡ b
      → cond b (Some w) (find_equal a ws) ≡ or_else (cond b (Some w) (find_equal a ws)) (cond b (Some v) None)
  find_at_equal true e = refl
  find_at_equal false e = sym (or_else-none (find_equal a ws))

  find_at_greater : (b : Bool) → find_equal a (insert_represented v ws) ≡ or_else (find_equal a ws) (if_equal a v)
      → cond b (Some w) (find_equal a (insert_represented v ws))
      ≡ or_else (cond b (Some w) (find_equal a ws)) (if_equal a v)
  find_at_greater true k = refl
  find_at_greater false k = k

  find_by : (o : Ordering) → value_cmp (abstract_value v) (abstract_value w) ≡ o
      → IsStrictlyInOrder (one_represented w ws)
      → find_equal a (insert_represented v ws) ≡ or_else (find_equal a ws) (if_equal a v)
      → find_equal a (match_ordering o (one_represented v (one_represented w ws)) (one_represented w ws)
      (one_represented w (insert_represented v ws))) ≡ or_else (find_equal a (one_represented w ws)) (if_equal a v)
  find_by Less e h k = find_at_less (value_eq a (abstract_value v)) refl e h
  find_by Equal e h k =
      find_at_equal (value_eq a (abstract_value w)) refl
      ∙ ap (λ x. or_else (find_equal a (one_represented w ws)) (cond (value_eq a x) (Some v) None))
      (sym (value_cmp-equal (abstract_value v) (abstract_value w) e))
  find_by Greater e h k = find_at_greater (value_eq a (abstract_value w)) k

pub find_equal-insert_represented : (a : AbstractValue) (v : Represented) (ws : RepresentedValues)
    → IsStrictlyInOrder ws → find_equal a (insert_represented v ws) ≡ or_else (find_equal a ws) (if_equal a v)
find_equal-insert_represented a v no_represented h = refl
find_equal-insert_represented a v (one_represented w ws) h =
    find_by a v w ws (value_cmp (abstract_value v) (abstract_value w)) refl h (find_equal-insert_represented a v ws h.1)

pub find_equal-insert_each : (a : AbstractValue) (vs : List Represented) (ws : RepresentedValues) → IsStrictlyInOrder ws
    → find_equal a (insert_each vs ws) ≡ or_else (find_equal a ws) (find_equal a (represented_values_of vs))
find_equal-insert_each a [] ws h = sym (or_else-none (find_equal a ws))
find_equal-insert_each a (v ∷ vs) ws h =
    find_equal-insert_each a vs (insert_represented v ws) (IsStrictlyInOrder-insert_represented v ws h)
    ∙ ap (λ o. or_else o (find_equal a (represented_values_of vs))) (find_equal-insert_represented a v ws h)
    ∙ or_else-assoc (find_equal a ws) (if_equal a v) (find_equal a (represented_values_of vs))
    ∙ ap (or_else (find_equal a ws)) (or_else-if_equal a v (find_equal a (represented_values_of vs)))

-- a canonical set has what the list has, and of equal elements the first
pub find_equal-canonical_set : (a : AbstractValue) (vs : List Represented)
    → find_equal a (canonical_set vs) ≡ find_equal a (represented_values_of vs)
find_equal-canonical_set a vs = find_equal-insert_each a vs no_represented tt

-- ---- two ordered lists that have the same are the same

none≢some : (v : Represented) → None ≡ Some v → ⊥
none≢some v e = cc

find_equal-self : (v : Represented) (vs : RepresentedValues)
    → find_equal (abstract_value v) (one_represented v vs) ≡ Some v
find_equal-self v vs = ap (λ b. cond b (Some v) (find_equal (abstract_value v) vs)) (value_eq-self (abstract_value v))

Same : RepresentedValues → RepresentedValues → Type 0
Same vs ws = (a : AbstractValue) → find_equal a vs ≡ find_equal a ws

-- neither first element is below the other
not_below : (v w : Represented) (vs ws : RepresentedValues) → IsStrictlyInOrder (one_represented w ws)
    → Same (one_represented v vs) (one_represented w ws) → value_cmp (abstract_value v) (abstract_value w) ≡ Less → ⊥
unfolding Same
not_below v w vs ws k s e =
    none≢some v (sym (below_all (abstract_value v) (one_represented w ws) e k) ∙ sym (s (abstract_value v))
    ∙ find_equal-self v vs)

same_first : (v w : Represented) (vs ws : RepresentedValues) → Same (one_represented v vs) (one_represented w ws)
    → abstract_value v ≡ abstract_value w → v ≡ w
unfolding Same
same_first v w vs ws s e =
    let f =
    sym (find_equal-self v vs) ∙ s (abstract_value v) ∙ ap (λ a. find_equal a (one_represented w ws)) e
    ∙ find_equal-self w ws in
    cc

below_self : (v : Represented) (vs : RepresentedValues) (a : AbstractValue) → IsStrictlyInOrder (one_represented v vs)
    → a ≡ abstract_value v → find_equal a vs ≡ None
below_self v vs a h e =
    below_all a vs (subst (λ x. IsBelowFirst x (abstract_values vs)) (sym e) h.0) h.1

same_rest_by : (v w : Represented) (vs ws : RepresentedValues) (a : AbstractValue)
    → IsStrictlyInOrder (one_represented v vs) → IsStrictlyInOrder (one_represented w ws)
    → abstract_value v ≡ abstract_value w → (b : Bool) → value_eq a (abstract_value v) ≡ b
    → cond b (Some v) (find_equal a vs) ≡ cond b (Some w) (find_equal a ws) → find_equal a vs ≡ find_equal a ws
same_rest_by v w vs ws a h k e true f g =
    let x : a ≡ abstract_value v = value_eq-true a (abstract_value v) f in
    below_self v vs a h x ∙ sym (below_self w ws a k (x ∙ e))
same_rest_by v w vs ws a h k e false f g = g

same_rest : (v w : Represented) (vs ws : RepresentedValues) → IsStrictlyInOrder (one_represented v vs)
    → IsStrictlyInOrder (one_represented w ws) → Same (one_represented v vs) (one_represented w ws)
    → abstract_value v ≡ abstract_value w → Same vs ws
unfolding Same
same_rest v w vs ws h k s e a =
    same_rest_by v w vs ws a h k e (value_eq a (abstract_value v)) refl
    (s a ∙ ap (λ x. cond (value_eq a x) (Some w) (find_equal a ws)) (sym e))

flip_same : (vs ws : RepresentedValues) → Same vs ws → Same ws vs
unfolding Same
flip_same vs ws s a = sym (s a)

compare_first : (v w : Represented) (vs ws : RepresentedValues) → IsStrictlyInOrder (one_represented v vs)
    → IsStrictlyInOrder (one_represented w ws) → Same (one_represented v vs) (one_represented w ws) → (o : Ordering)
    → value_cmp (abstract_value v) (abstract_value w) ≡ o → abstract_value v ≡ abstract_value w
compare_first v w vs ws h k s Less e = absurd (not_below v w vs ws k s e)
compare_first v w vs ws h k s Equal e = value_cmp-equal (abstract_value v) (abstract_value w) e
compare_first v w vs ws h k s Greater e =
    absurd (not_below w v ws vs h (flip_same (one_represented v vs) (one_represented w ws) s)
    (turned (abstract_value v) (abstract_value w) e))

pub same_finds : (vs ws : RepresentedValues) → IsStrictlyInOrder vs → IsStrictlyInOrder ws
    → ((a : AbstractValue) → find_equal a vs ≡ find_equal a ws) → vs ≡ ws
unfolding Same
same_finds no_represented no_represented h k s = refl
same_finds no_represented (one_represented w ws) h k s =
    absurd (none≢some w (s (abstract_value w) ∙ find_equal-self w ws))
same_finds (one_represented v vs) no_represented h k s =
    absurd (none≢some v (sym (s (abstract_value v)) ∙ find_equal-self v vs))
same_finds (one_represented v vs) (one_represented w ws) h k s =
    let e = compare_first v w vs ws h k s (value_cmp (abstract_value v) (abstract_value w)) refl in
    let first = same_first v w vs ws s e in
    let rest = same_finds vs ws h.1 k.1 (same_rest v w vs ws h k s e) in
    λ i. one_represented (first i) (rest i)

-- what is in order is its own canonical set
pub canonical_set-in_order : (vs : RepresentedValues) → IsStrictlyInOrder vs
    → canonical_set (list_of_represented vs) ≡ vs
canonical_set-in_order vs h =
    same_finds (canonical_set (list_of_represented vs)) vs (IsStrictlyInOrder-canonical_set (list_of_represented vs)) h
    (λ a. find_equal-canonical_set a (list_of_represented vs) ∙ ap (find_equal a) (represented_values_of-list_of vs))

-- ---- the same without representations

pub abstract_values_of-list_of : (vs : AbstractValues) → abstract_values_of (list_of_abstract vs) ≡ vs
abstract_values_of-list_of no_values = refl
abstract_values_of-list_of (one_value v vs) = ap (one_value v) (abstract_values_of-list_of vs)

pub abstract_values-represented_values_of : (vs : List Represented)
    → abstract_values (represented_values_of vs) ≡ abstract_values_of (map abstract_value vs)
abstract_values-represented_values_of [] = refl
abstract_values-represented_values_of (v ∷ vs) =
    ap (one_value (abstract_value v)) (abstract_values-represented_values_of vs)

or_twice : (p q : Bool) → (p || q) ≡ (p || (p || q))
or_twice true q = refl
or_twice false q = refl

pub or_swap : (p q r : Bool) → (p || (q || r)) ≡ (q || (p || r))
or_swap true true r = refl
or_swap true false r = refl
or_swap false q r = refl

has_by : (a v b : AbstractValue) (bs : AbstractValues) (o : Ordering) → value_cmp v b ≡ o
    → has_value a (insert_value v bs) ≡ (value_eq a v || has_value a bs)
    → has_value a (match_ordering o (one_value v (one_value b bs)) (one_value b bs) (one_value b (insert_value v bs)))
    ≡ (value_eq a v || has_value a (one_value b bs))
has_by a v b bs Less e h = refl
has_by a v b bs Equal e h =
    or_twice (value_eq a b) (has_value a bs)
    ∙ ap (λ x. value_eq a x || has_value a (one_value b bs)) (sym (value_cmp-equal v b e))
has_by a v b bs Greater e h = ap (λ x. value_eq a b || x) h ∙ or_swap (value_eq a b) (value_eq a v) (has_value a bs)

pub has_value-insert_value : (a v : AbstractValue) (bs : AbstractValues)
    → has_value a (insert_value v bs) ≡ (value_eq a v || has_value a bs)
has_value-insert_value a v no_values = refl
has_value-insert_value a v (one_value b bs) =
    has_by a v b bs (value_cmp v b) refl (has_value-insert_value a v bs)

or_assoc_turned : (p q r : Bool) → (p || (q || r)) ≡ ((q || p) || r)
or_assoc_turned true true r = refl
or_assoc_turned true false r = refl
or_assoc_turned false true r = refl
or_assoc_turned false false r = refl

has_value-insert_each_value : (a : AbstractValue) (vs : List AbstractValue) (bs : AbstractValues)
    → has_value a (insert_each_value vs bs) ≡ (has_value a (abstract_values_of vs) || has_value a bs)
has_value-insert_each_value a [] bs = refl
has_value-insert_each_value a (v ∷ vs) bs =
    has_value-insert_each_value a vs (insert_value v bs)
    ∙ ap (λ x. has_value a (abstract_values_of vs) || x) (has_value-insert_value a v bs)
    ∙ or_assoc_turned (has_value a (abstract_values_of vs)) (value_eq a v) (has_value a bs)

-- the set of a list has what the list has
pub has_value-abstract_set : (a : AbstractValue) (vs : List AbstractValue)
    → has_value a (abstract_set vs) ≡ has_value a (abstract_values_of vs)
has_value-abstract_set a vs =
    has_value-insert_each_value a vs no_values ∙ or-false (has_value a (abstract_values_of vs))

pub has_value-canonical_set : (a : AbstractValue) (vs : List Represented)
    → has_value a (abstract_values (canonical_set vs)) ≡ has_value a (abstract_values (represented_values_of vs))
has_value-canonical_set a vs =
    ap (has_value a) (abstract_values-canonical_set vs) ∙ has_value-abstract_set a (map abstract_value vs)
    ∙ ap (has_value a) (sym (abstract_values-represented_values_of vs))

lacks_below : (a : AbstractValue) (bs : AbstractValues) → IsBelowFirst a bs → AreInOrder bs → has_value a bs ≡ false
lacks_below a no_values e h = refl
lacks_below a (one_value b bs) e h =
    ap (λ o. is_eq o || has_value a bs) e ∙ lacks_below a bs (below_rest bs h.0) h.1
  where
    below_rest : (cs : AbstractValues) → IsBelowFirst b cs → IsBelowFirst a cs
    below_rest no_values f = tt
    below_rest (one_value c cs) f = value_cmp-total.trans a b c e f

has_value-self : (b : AbstractValue) (bs : AbstractValues) → has_value b (one_value b bs) ≡ true
has_value-self b bs = ap (λ x. x || has_value b bs) (value_eq-self b)

true≢false : true ≡ false → ⊥
true≢false e = cc

HaveSame : AbstractValues → AbstractValues → Type 0
HaveSame bs cs = (a : AbstractValue) → has_value a bs ≡ has_value a cs

flip_have : (bs cs : AbstractValues) → HaveSame bs cs → HaveSame cs bs
unfolding HaveSame
flip_have bs cs s a = sym (s a)

members_not_below : (b c : AbstractValue) (bs cs : AbstractValues) → AreInOrder (one_value c cs)
    → HaveSame (one_value b bs) (one_value c cs) → value_cmp b c ≡ Less → ⊥
unfolding HaveSame
members_not_below b c bs cs k s e =
    true≢false (sym (has_value-self b bs) ∙ s b ∙ lacks_below b (one_value c cs) e k)

members_first : (b c : AbstractValue) (bs cs : AbstractValues) → AreInOrder (one_value b bs)
    → AreInOrder (one_value c cs) → HaveSame (one_value b bs) (one_value c cs) → (o : Ordering) → value_cmp b c ≡ o
    → b ≡ c
members_first b c bs cs h k s Less e = absurd (members_not_below b c bs cs k s e)
members_first b c bs cs h k s Equal e = value_cmp-equal b c e
members_first b c bs cs h k s Greater e =
    absurd (members_not_below c b cs bs h (flip_have (one_value b bs) (one_value c cs) s) (turned b c e))

members_rest_by : (b : AbstractValue) (bs cs : AbstractValues) (a : AbstractValue) → AreInOrder (one_value b bs)
    → AreInOrder (one_value b cs) → (t : Bool) → value_eq a b ≡ t → (t || has_value a bs) ≡ (t || has_value a cs)
    → has_value a bs ≡ has_value a cs
members_rest_by b bs cs a h k true e s =
    let x : a ≡ b = value_eq-true a b e in
    lacks_below a bs (subst (λ y. IsBelowFirst y bs) (sym x) h.0) h.1
    ∙ sym (lacks_below a cs (subst (λ y. IsBelowFirst y cs) (sym x) k.0) k.1)
members_rest_by b bs cs a h k false e s = s

members_rest : (b c : AbstractValue) (bs cs : AbstractValues) → AreInOrder (one_value b bs)
    → AreInOrder (one_value c cs) → HaveSame (one_value b bs) (one_value c cs) → b ≡ c → HaveSame bs cs
unfolding HaveSame
members_rest b c bs cs h k s e a =
    members_rest_by b bs cs a h (subst (λ x. AreInOrder (one_value x cs)) (sym e) k) (value_eq a b) refl
    (s a ∙ ap (λ x. value_eq a x || has_value a cs) (sym e))

-- two lists in order with the same members are the same
pub same_members : (bs cs : AbstractValues) → AreInOrder bs → AreInOrder cs
    → ((a : AbstractValue) → has_value a bs ≡ has_value a cs) → bs ≡ cs
unfolding HaveSame
same_members no_values no_values h k s = refl
same_members no_values (one_value c cs) h k s = absurd (true≢false (sym (has_value-self c cs) ∙ sym (s c)))
same_members (one_value b bs) no_values h k s = absurd (true≢false (sym (has_value-self b bs) ∙ s b))
same_members (one_value b bs) (one_value c cs) h k s =
    let e = members_first b c bs cs h k s (value_cmp b c) refl in
    let rest = same_members bs cs h.1 k.1 (members_rest b c bs cs h k s e) in
    λ i. one_value (e i) (rest i)

pub abstract_set-in_order : (bs : AbstractValues) → AreInOrder bs → abstract_set (list_of_abstract bs) ≡ bs
abstract_set-in_order bs h =
    same_members (abstract_set (list_of_abstract bs)) bs (AreInOrder-abstract_set (list_of_abstract bs)) h
    (λ a. has_value-abstract_set a (list_of_abstract bs) ∙ ap (has_value a) (abstract_values_of-list_of bs))

-- ---- a value is larger than each part

pub size-first : (v : Represented) (vs : RepresentedValues)
    → represented_size v < represented_values_size (one_represented v vs)
size-first v vs = omega arith

pub size-rest : (v : Represented) (vs : RepresentedValues)
    → represented_values_size vs < represented_values_size (one_represented v vs)
size-rest v vs = omega arith

pub size-first_at : (k : Text) (v : Represented) (fs : RepresentedFields)
    → represented_size v < represented_fields_size (one_represented_at k v fs)
size-first_at k v fs = omega arith

pub size-rest_at : (k : Text) (v : Represented) (fs : RepresentedFields)
    → represented_fields_size fs < represented_fields_size (one_represented_at k v fs)
size-rest_at k v fs = omega arith

pub size-set : (vs : RepresentedValues) → represented_values_size vs < represented_size (set_represented vs)
size-set vs = omega arith

pub size-record : (fs : RepresentedFields) → represented_fields_size fs < represented_size (record_represented fs)
size-record fs = omega arith
