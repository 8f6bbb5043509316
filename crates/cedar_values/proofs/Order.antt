-- The order of values, by what their parts compare as.
use Rattle.std.proofs.Common.{◌≡◌, ℕ, ◌+◌, ◌*◌, max, ◌<◌, ◌≤◌, List, [], ◌∷◌, length, drop, Global, Less, Greater, refl, sym, ap, ◌∙◌, arith, length-drop, subst, BTreeMap}
use Rattle.std.specs.declared.rc.RcStr.{RcStr}
use Rattle.std.specs.Rc.{rc_str_bytes}
use Rattle.std.specs.Ordering.{ordering_then}
use Rattle.std.proofs.lemmas.List.{drop_all}
use Rattle.cedar_model.specs.Values.{RepresentedValues, abstract_values, abstract_fields}
use Rattle.cedar_model.specs.Keys.{key_cmp, values_key, value_fields_key}
use Rattle.cedar_model.specs.lemmas.Keys.{key_cmp-text_key}
use Rattle.cedar_model.specs.Sets.{represented_size, represented_values_of, canonical_set}
use Rattle.std.specs.Map.{values_of}
use Rattle.std.specs.declared.rc.Rc.{Rc}
use denote.Param.Weighed.{most}
use Rattle.cedar_values.specs.declared.value.ValueKind.{ValueKind}
use Rattle.cedar_values.specs.declared.value.ValueKind.TheVariants as kinds
use Rattle.cedar_values.specs.declared.value.Set.TheDeep.{size-ValueKind, size-Value}
use Rattle.cedar_values.specs.Sound.{Placed, Elements, whats, whats_at, elements_seen}
use Rattle.cedar_values.specs.Compared.{represented_cmp, listed_cmp, entries_cmp}

pub key_cmp-listed : (ps qs : List Placed) → key_cmp (values_key (abstract_values (represented_values_of (whats ps)))) (values_key (abstract_values (represented_values_of (whats qs)))) ≡ listed_cmp ps qs
key_cmp-listed [] [] = refl
key_cmp-listed [] (q ∷ qs) = refl
key_cmp-listed (p ∷ ps) [] = refl
key_cmp-listed (p ∷ ps) (q ∷ qs) = ap (ordering_then (represented_cmp p.what q.what)) (key_cmp-listed ps qs)

pub key_cmp-entries : (fs gs : List (RcStr Global × Placed)) → key_cmp (value_fields_key (abstract_fields (whats_at fs))) (value_fields_key (abstract_fields (whats_at gs))) ≡ entries_cmp fs gs
key_cmp-entries [] [] = refl
key_cmp-entries [] (g ∷ gs) = refl
key_cmp-entries (f ∷ fs) [] = refl
key_cmp-entries (f ∷ fs) (g ∷ gs) =
    λ i. ordering_then (key_cmp-text_key (rc_str_bytes f.0) (rc_str_bytes g.0) i) (ordering_then (represented_cmp f.1.what g.1.what) (key_cmp-entries fs gs i))

-- the elements of a set that is in order
pub all-seen : (ps : List Placed) (s : Elements) → elements_seen ps ≡ s → canonical_set (whats ps) ≡ represented_values_of (whats ps) → s.all ≡ represented_values_of (whats ps)
all-seen ps s e h = sym (ap (λ (t : Elements). t.all) e) ∙ h

pub listed_cmp-sets : (ps qs : List Placed) (s t : Elements) → elements_seen ps ≡ s → canonical_set (whats ps) ≡ represented_values_of (whats ps) → elements_seen qs ≡ t → canonical_set (whats qs) ≡ represented_values_of (whats qs)
    → listed_cmp ps qs ≡ key_cmp (values_key (abstract_values s.all)) (values_key (abstract_values t.all))
listed_cmp-sets ps qs s t e h f k =
    sym (key_cmp-listed ps qs) ∙ both (sym (all-seen ps s e h)) (sym (all-seen qs t f k))
  where
    both : {a b c d : RepresentedValues} → a ≡ b → c ≡ d → key_cmp (values_key (abstract_values a)) (values_key (abstract_values c)) ≡ key_cmp (values_key (abstract_values b)) (values_key (abstract_values d))
    both x y = λ i. key_cmp (values_key (abstract_values (x i))) (values_key (abstract_values (y i)))

nothing_right : (ps : List Placed) → 0 < length ps → listed_cmp ps [] ≡ Greater
nothing_right [] h = absurd (omega arith)
nothing_right (p ∷ ps) h = refl

nothing_left : (ps : List Placed) → 0 < length ps → listed_cmp [] ps ≡ Less
nothing_left [] h = absurd (omega arith)
nothing_left (p ∷ ps) h = refl

-- after i equal elements, what is left of the longer list decides
pub listed_cmp-longer : (ps qs : List Placed) (i : ℕ) → i < length ps → length qs ≤ i → listed_cmp (drop i ps) (drop i qs) ≡ Greater
listed_cmp-longer ps qs i h k = ap (listed_cmp (drop i ps)) (drop_all i qs k) ∙ nothing_right (drop i ps) (omega (arith, length-drop i ps))

pub listed_cmp-shorter : (ps qs : List Placed) (i : ℕ) → length ps ≤ i → i < length qs → listed_cmp (drop i ps) (drop i qs) ≡ Less
listed_cmp-shorter ps qs i h k = ap (λ l. listed_cmp l (drop i qs)) (drop_all i ps h) ∙ nothing_left (drop i qs) (omega (arith, length-drop i qs))

most_scaled : (ps : List Placed) → most size-Value ps ≤ 2 * most (λ p. represented_size p.what + 1) ps
most_scaled [] = omega arith
most_scaled (p ∷ ps) = omega (arith, most_scaled ps)

-- a record is deeper than its values
pub size-Record : (k : ValueKind) (m : Rc (BTreeMap (RcStr Global) Placed) Global) → k ≡ kinds.Record m → most size-Value (values_of m.value.entries) < size-ValueKind k
size-Record k m e = subst (λ n. most size-Value (values_of m.value.entries) < size-ValueKind n) (sym e) (at m)
  where
    above : (n k : ℕ) → k ≤ 2 * n → k < 2 * max n 0 + 1
    above n k h = omega arith

    at : (m : Rc (BTreeMap (RcStr Global) Placed) Global) → most size-Value (values_of m.value.entries) < size-ValueKind (kinds.Record m)
    at m = above (most (λ (p : Placed). represented_size p.what + 1) (values_of m.value.entries)) (most size-Value (values_of m.value.entries)) (most_scaled (values_of m.value.entries))

pub ruleset order_keys = (key_cmp-text_key, key_cmp-listed, key_cmp-entries)
