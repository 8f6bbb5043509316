-- The entries of a map that is made of keys in order.
use Rattle.std.proofs.Common.{◌≡◌, List, [], ◌∷◌, ◌++◌, map, length, Global, Ordering, Less, Equal, Greater, Option, Some}
use Rattle.std.proofs.Common.{None, true, refl, sym, ap, ◌∙◌, subst, ⊎_elim, arith}
use Rattle.std.proofs.lemmas.Cmp.{nat_list_cmp_total}
use Rattle.std.proofs.lemmas.Bool.{cases_Bool}
use Rattle.std.proofs.lemmas.Map.{lookup-none}
use Rattle.std.proofs.lemmas.Map.Entries.{lookup_head, lookup_tail, none_past_head, none_below_head}
use Rattle.std.proofs.lemmas.Map.Keys.{sorted_tail, IsDistinct-from_sorted}
use Rattle.std.proofs.lemmas.Map.Lookups.{exact_bytes}
use Rattle.std.proofs.lemmas.Map.Made.{update_all_none}
use Rattle.std.proofs.lemmas.Slice.Zip.{firsts-zip}
use Rattle.std.proofs.lemmas.Option.{none-some}
use Rattle.std.specs.BTreeMap.{IsFromIterResult, is_at}
use Rattle.std.specs.Cmp.{IsTotalOrder, eq_by_cmp_equiv, tied_itself}
use Rattle.std.specs.List.{zip}
use Rattle.std.specs.Option.{unwrap_or}
use Rattle.std.specs.declared.collections.BTreeMap.{BTreeMap}
use Rattle.std.specs.declared.rc.RcStr.{RcStr}
use Rattle.std.specs.Rc.{rc_str_bytes}
use Rattle.std.specs.List.Sorted.{IsStrictlySortedBy}
use Rattle.std.specs.Map.{keys_of, lookup}
use Rattle.std.specs.Ordering.{eq_by_cmp, is_eq, ordering_reverse}
use Rattle.cedar_names.specs.declared.names.Loc.{Loc}
use Rattle.cedar_model.specs.Terms.{Text, Fields, no_fields, one_field}
use Rattle.cedar_model.specs.Values.{RepresentedFields, no_represented_at, one_represented_at}
use Rattle.cedar_model.specs.Sets.{represented_fields_of}
use Rattle.cedar_expressions.specs.declared.expr.Expr.{Expr}
use Rattle.cedar_expressions.specs.View.{view, terms_view, fields_view}
use Rattle.cedar_values.specs.Sound.{Placed, whats, whats_at, inside_each, inside_at}
use Rattle.cedar_expressions.specs.Nodes.{key_order}
use Rattle.cedar_restricted.specs.Keys.{texts_of, fields_named, each_under}

keys_total : IsTotalOrder key_order
keys_total = record {
  antisymm = λ x y. nat_list_cmp_total.antisymm (rc_str_bytes x) (rc_str_bytes y);
  trans = λ x y z. nat_list_cmp_total.trans (rc_str_bytes x) (rc_str_bytes y) (rc_str_bytes z);
  congr = λ x y z. nat_list_cmp_total.congr (rc_str_bytes x) (rc_str_bytes y) (rc_str_bytes z);
}

abbrev pub Entry : Type 0 → Type 0
Entry A = RcStr Global × A

module _ {A : Type 0} where
  abbrev AreInOrder : List (Entry A) → Type 0
  AreInOrder es = IsStrictlySortedBy key_order (keys_of es)

  -- the value at a key
  abbrev find : List (Entry A) → RcStr Global → Option A
  find es q = lookup (is_at (key_order q)) es

  found_at_head : (e : Entry A) (es : List (Entry A)) → find (e ∷ es) e.0 ≡ Some e.1
  found_at_head e es = lookup_head (is_at (key_order e.0)) e es (ap is_eq (tied_itself keys_total e.0))

  found_no_more : (q : RcStr Global) (e : Entry A) (es : List (Entry A)) → AreInOrder (e ∷ es) →
      eq_by_cmp key_order q e.0 ≡ true → find es q ≡ None
  found_no_more q e es s t =
      lookup-none (is_at (key_order q)) es
      (none_past_head (eq_by_cmp_equiv keys_total) q e es (IsDistinct-from_sorted key_order _ s) t)

  module _ (e f : Entry A) (es fs : List (Entry A)) (s : AreInOrder (e ∷ es)) (t : AreInOrder (f ∷ fs))
      (h : (q : RcStr Global) → find (e ∷ es) q ≡ find (f ∷ fs) q) where
    head_keys_by : (r : Ordering) → key_order e.0 f.0 ≡ r → key_order e.0 f.0 ≡ Equal
    head_keys_by Less p =
        absurd (none-some e.1 (sym (sym (found_at_head e es) ∙ h e.0 ∙
        lookup-none _ (f ∷ fs) (none_below_head keys_total e.0 f fs t p))))
    head_keys_by Equal p = p
    head_keys_by Greater p =
        absurd (none-some f.1 (sym (sym (found_at_head f fs) ∙ sym (h f.0) ∙
        lookup-none _ (e ∷ es)
        (none_below_head keys_total f.0 e es s (keys_total.antisymm f.0 e.0 ∙ ap ordering_reverse p)))))

    head_keys : key_order e.0 f.0 ≡ Equal
    head_keys = head_keys_by (key_order e.0 f.0) refl

    head_values : e.1 ≡ f.1
    head_values =
        ap (λ u. unwrap_or u e.1)
        (sym (found_at_head e es) ∙ h e.0 ∙ lookup_head (is_at (key_order e.0)) f fs (ap is_eq head_keys))

    same_rest : (q : RcStr Global) → find es q ≡ find fs q
    same_rest q =
        let laws = eq_by_cmp_equiv keys_total in
        let same : eq_by_cmp key_order q f.0 ≡ eq_by_cmp key_order q e.0 = laws.symm q f.0 ∙
        sym (laws.congr e.0 f.0 q (ap is_eq head_keys)) ∙ laws.symm e.0 q in
        ⊎_elim
        (λ b. found_no_more q e es s b ∙ sym (found_no_more q f fs t (same ∙ b)))
        (λ b. sym (lookup_tail (is_at (key_order q)) e es b) ∙ h q ∙ lookup_tail (is_at (key_order q)) f fs (same ∙ b))
        (cases_Bool (eq_by_cmp key_order q e.0))

  -- entries by the texts of their keys
  abbrev pub named_entries : List (Entry A) → List (Text × A)
  named_entries es = map {B = Text × A} (λ e. (rc_str_bytes e.0, e.1)) es

  -- entries in order with the same value at each key are the same
  same_entries : (es fs : List (Entry A)) → AreInOrder es → AreInOrder fs →
      ((q : RcStr Global) → find es q ≡ find fs q) → named_entries es ≡ named_entries fs
  same_entries [] [] s t h = refl
  same_entries [] (f ∷ fs) s t h = absurd (none-some f.1 (sym (sym (h f.0 ∙ found_at_head f fs))))
  same_entries (e ∷ es) [] s t h = absurd (none-some e.1 (sym (sym (found_at_head e es) ∙ h e.0)))
  same_entries (e ∷ es) (f ∷ fs) s t h =
      let rest = same_entries es fs (sorted_tail key_order e.0 (keys_of es) s)
      (sorted_tail key_order f.0 (keys_of fs) t) (same_rest e f es fs s t h) in
      λ i. (
        exact_bytes (rc_str_bytes e.0) (rc_str_bytes f.0) (head_keys e f es fs s t h) i,
        head_values e f es fs s t h i,
      ) ∷ rest i

  -- a map that is made of entries in order has them
  entries_of_map : (es : List (Entry A)) (m : BTreeMap (RcStr Global) A Global) → AreInOrder es →
      IsFromIterResult key_order es m → named_entries m.entries ≡ named_entries es
  entries_of_map es m sorted made =
      same_entries m.entries es made.1 sorted
      (λ q. made.0 q ∙ update_all_none (eq_by_cmp_equiv keys_total) (eq_by_cmp key_order) (λ x y. refl) es q
      (IsDistinct-from_sorted key_order _ sorted))

  named-zip : (ks : List (RcStr Global)) (xs : List A) → named_entries (zip ks xs) ≡ each_under (texts_of ks) xs
  named-zip [] xs = refl
  named-zip (k ∷ ks) [] = refl
  named-zip (k ∷ ks) (x ∷ xs) = ap (λ l. (rc_str_bytes k, x) ∷ l) (named-zip ks xs)

  -- a map that is made of keys in order has under them what it is made of
  pub entries_under : (ks : List (RcStr Global)) (xs : List A) (m : BTreeMap (RcStr Global) A Global) →
      (length ks ≡ length xs) × IsStrictlySortedBy key_order ks → IsFromIterResult key_order (zip ks xs) m →
      named_entries m.entries ≡ each_under (texts_of ks) xs
  entries_under ks xs m keys made =
      entries_of_map (zip ks xs) m
      (subst (IsStrictlySortedBy key_order) (sym (firsts-zip ks xs (sym keys.0))) keys.1) made ∙ named-zip ks xs

-- the same of each value
module _ {A B : Type 0} (f : A → B) where
  of_entries : (es : List (Entry A)) → map (λ e. f e.1) es ≡ map (λ e. f e.1) (named_entries es)
  of_entries [] = refl
  of_entries (e ∷ es) = ap (λ l. f e.1 ∷ l) (of_entries es)

  of_each_under : (ks : List (RcStr Global)) (xs : List A) → length ks ≡ length xs →
      map (λ e. f e.1) (each_under (texts_of ks) xs) ≡ map f xs
  of_each_under [] [] e = refl
  of_each_under [] (x ∷ xs) e = absurd (omega arith)
  of_each_under (k ∷ ks) [] e = absurd (omega arith)
  of_each_under (k ∷ ks) (x ∷ xs) e =
      let fewer : length ks ≡ length xs = omega arith in
      ap (λ l. f x ∷ l) (of_each_under ks xs fewer)

  pub each_of_map : (ks : List (RcStr Global)) (xs : List A) (m : BTreeMap (RcStr Global) A Global) →
      (length ks ≡ length xs) × IsStrictlySortedBy key_order ks → IsFromIterResult key_order (zip ks xs) m →
      map (λ e. f e.1) m.entries ≡ map f xs
  each_of_map ks xs m keys made =
      of_entries m.entries ∙ ap (map (λ e. f e.1)) (entries_under ks xs m keys made) ∙ of_each_under ks xs keys.0

-- ---- values and expressions under keys

abbrev values_named : List (Text × Placed) → RepresentedFields
values_named [] = no_represented_at
values_named (f ∷ fs) = one_represented_at f.0 f.1.what (values_named fs)

whats_at-named : (es : List (RcStr Global × Placed)) → whats_at es ≡ values_named (named_entries es)
whats_at-named [] = refl
whats_at-named (e ∷ es) = ap (one_represented_at (rc_str_bytes e.0) e.1.what) (whats_at-named es)

values-under : (ks : List Text) (vs : List Placed) → values_named (each_under ks vs) ≡
    represented_fields_of (each_under ks (whats vs))
values-under [] vs = refl
values-under (k ∷ ks) [] = refl
values-under (k ∷ ks) (v ∷ vs) = ap (one_represented_at k v.what) (values-under ks vs)

pub values_of_map : (ks : List (RcStr Global)) (vs : List Placed) (m : BTreeMap (RcStr Global) Placed Global) →
    (length ks ≡ length vs) × IsStrictlySortedBy key_order ks → IsFromIterResult key_order (zip ks vs) m →
    whats_at m.entries ≡ represented_fields_of (each_under (texts_of ks) (whats vs))
values_of_map ks vs m keys made =
    whats_at-named m.entries ∙ ap values_named (entries_under ks vs m keys made) ∙ values-under (texts_of ks) vs

-- where what is inside them stands
abbrev insides_named : List (Text × Placed) → List (Option Loc)
insides_named [] = []
insides_named (f ∷ fs) = f.1.loc ∷ f.1.inside ++ insides_named fs

inside_at-named : (es : List (RcStr Global × Placed)) → inside_at es ≡ insides_named (named_entries es)
inside_at-named [] = refl
inside_at-named (e ∷ es) = ap (λ ls. e.1.loc ∷ e.1.inside ++ ls) (inside_at-named es)

insides-under : (ks : List (RcStr Global)) (vs : List Placed) → length ks ≡ length vs →
    insides_named (each_under (texts_of ks) vs) ≡ inside_each vs
insides-under [] [] e = refl
insides-under [] (v ∷ vs) e = absurd (omega arith)
insides-under (k ∷ ks) [] e = absurd (omega arith)
insides-under (k ∷ ks) (v ∷ vs) e =
    let fewer : length ks ≡ length vs = omega arith in
    ap (λ ls. v.loc ∷ v.inside ++ ls) (insides-under ks vs fewer)

pub insides_of_map : (ks : List (RcStr Global)) (vs : List Placed) (m : BTreeMap (RcStr Global) Placed Global) →
    (length ks ≡ length vs) × IsStrictlySortedBy key_order ks → IsFromIterResult key_order (zip ks vs) m →
    inside_at m.entries ≡ inside_each vs
insides_of_map ks vs m keys made =
    inside_at-named m.entries ∙ ap insides_named (entries_under ks vs m keys made) ∙ insides-under ks vs keys.0

abbrev exprs_named : List (Text × Expr) → Fields
exprs_named [] = no_fields
exprs_named (f ∷ fs) = one_field f.0 (view f.1) (exprs_named fs)

fields_view-named : (es : List (RcStr Global × Expr)) → fields_view es ≡ exprs_named (named_entries es)
fields_view-named [] = refl
fields_view-named (e ∷ es) = ap (one_field (rc_str_bytes e.0) (view e.1)) (fields_view-named es)

exprs-under : (ks : List Text) (es : List Expr) → exprs_named (each_under ks es) ≡ fields_named ks (terms_view es)
exprs-under [] es = refl
exprs-under (k ∷ ks) [] = refl
exprs-under (k ∷ ks) (e ∷ es) = ap (one_field k (view e)) (exprs-under ks es)

pub exprs_of_map : (ks : List (RcStr Global)) (es : List Expr) (m : BTreeMap (RcStr Global) Expr Global) →
    (length ks ≡ length es) × IsStrictlySortedBy key_order ks → IsFromIterResult key_order (zip ks es) m →
    fields_view m.entries ≡ fields_named (texts_of ks) (terms_view es)
exprs_of_map ks es m keys made =
    fields_view-named m.entries ∙ ap exprs_named (entries_under ks es m keys made) ∙ exprs-under (texts_of ks) es
