-- What maps of stored attributes and tags hold.
use Rattle.std.proofs.Common.{◌≡◌, refl, sym, ap, ◌∙◌, Bool, true, false, cond, ◌&&◌, List, [], ◌∷◌, map, Option, None, Some, option_map, option_copied, IfSome, Bor, subst}
use Rattle.std.proofs.lemmas.Bool.{and_parts, and_from}
use Rattle.std.proofs.lemmas.Map.Text.{is_eq-slice_cmp}
use Rattle.std.specs.BTreeMap.{insert_entry}
use Rattle.std.specs.Cmp.Lexicographic.{slice_cmp}
use Rattle.std.specs.List.{AllByRecursion}
use Rattle.std.specs.List.Sorted.{IsStrictlySortedBy}
use Rattle.std.specs.Map.{lookup, keys_of}
use Rattle.std.specs.Ordering.{is_eq, nat_cmp, match_ordering}
use Rattle.std.specs.Rc.{rc_str_bytes}
use Rattle.std.specs.declared.alloc.Global.{Global}
use Rattle.std.specs.declared.cmp.Ordering.{Ordering}
use Rattle.std.specs.declared.cmp.Ordering.TheVariants.{Less, Equal, Greater}
use Rattle.std.specs.declared.rc.RcStr.{RcStr}
use Rattle.cedar_model.specs.Terms.{Text}
use Rattle.cedar_model.specs.Outcomes.{text_eq}
use Rattle.cedar_model.specs.Settings.{part_at, names_of}
use Rattle.cedar_model.specs.Failures as model
use Rattle.cedar_values.specs.declared.partial_value.PartialValue.{PartialValue}
use Rattle.cedar_values.specs.Residuals.{partial_view}
use Rattle.cedar_layers.specs.Parts.{parts_view, is_restricted_part, are_restricted_parts}

option_map-cond : (b : Bool) (x : PartialValue) (o : Option PartialValue) → option_map partial_view (cond b (Some x) o) ≡ cond b (Some (partial_view x)) (option_map partial_view o)
option_map-cond true x o = refl
option_map-cond false x o = refl

-- a look-up by text finds what stands under the text
pub option_map-lookup : (t : Text) (es : List (RcStr Global × PartialValue)) → option_map partial_view (lookup (λ (k : RcStr Global). is_eq (slice_cmp nat_cmp t (rc_str_bytes k))) es) ≡ part_at t (parts_view es)
unfolding part_at
option_map-lookup t [] = refl
option_map-lookup t (e ∷ es) =
    option_map-cond (is_eq (slice_cmp nat_cmp t (rc_str_bytes e.0))) e.1 (lookup (λ (k : RcStr Global). is_eq (slice_cmp nat_cmp t (rc_str_bytes k))) es) ∙ (λ i. cond (is_eq-slice_cmp t (rc_str_bytes e.0) i) (Some (partial_view e.1)) (option_map-lookup t es i))

-- each part of restricted parts is restricted
pub restricted_at : (t : Text) (ps : List (Text × model.PartialValue)) (p : model.PartialValue) → are_restricted_parts ps ≡ true → part_at t ps ≡ Some p → is_restricted_part p ≡ true
unfolding part_at
restricted_at t [] p h e = cc
restricted_at t (q ∷ qs) p h e = by (text_eq t q.0) refl (restricted_at t qs p (and_parts _ _ h).1)
  where
    by : (b : Bool) → text_eq t q.0 ≡ b → (part_at t qs ≡ Some p → is_restricted_part p ≡ true) → is_restricted_part p ≡ true
    by true f later =
        let found : Some q.1 ≡ Some p = sym (ap (λ (c : Bool). cond c (Some q.1) (part_at t qs)) f) ∙ e in
        let same : q.1 ≡ p = cc in
        ap is_restricted_part (sym same) ∙ (and_parts (is_restricted_part q.1) (are_restricted_parts qs) h).0
    by false f later = later (sym (ap (λ (c : Bool). cond c (Some q.1) (part_at t qs)) f) ∙ e)

-- a part that a look-up lends is restricted
pub restricted_result : (t : Text) (ps : List (Text × model.PartialValue)) (r : Option (Bor PartialValue)) → are_restricted_parts ps ≡ true → option_map partial_view (option_copied r) ≡ part_at t ps → IfSome r (λ p. is_restricted_part (partial_view p.now) ≡ true)
restricted_result t ps None h e = tt
restricted_result t ps (Some p) h e = restricted_at t ps (partial_view p.now) h (sym e)

-- a restricted part that is put among restricted parts leaves them restricted
pub restricted_insert : (cmp : RcStr Global → RcStr Global → Ordering) (es : List (RcStr Global × PartialValue)) (k : RcStr Global) (p : PartialValue)
    → is_restricted_part (partial_view p) ≡ true → are_restricted_parts (parts_view es) ≡ true
    → are_restricted_parts (parts_view (insert_entry cmp es k p)) ≡ true
restricted_insert cmp [] k p r h = and_from (is_restricted_part (partial_view p)) true r refl
restricted_insert cmp (e ∷ es) k p r h =
    at_order (cmp k e.0) (restricted_insert cmp es k p r (and_parts (is_restricted_part (partial_view e.1)) (are_restricted_parts (parts_view es)) h).1)
  where
    at_order : (o : Ordering) → are_restricted_parts (parts_view (insert_entry cmp es k p)) ≡ true
        → are_restricted_parts (parts_view (match_ordering o ((k, p) ∷ e ∷ es) ((e.0, p) ∷ es) (e ∷ insert_entry cmp es k p))) ≡ true
    at_order Less rest = and_from (is_restricted_part (partial_view p)) (are_restricted_parts (parts_view (e ∷ es))) r h
    at_order Equal rest =
        and_from (is_restricted_part (partial_view p)) (are_restricted_parts (parts_view es)) r
        (and_parts (is_restricted_part (partial_view e.1)) (are_restricted_parts (parts_view es)) h).1
    at_order Greater rest =
        and_from (is_restricted_part (partial_view e.1)) (are_restricted_parts (parts_view (insert_entry cmp es k p)))
        (and_parts (is_restricted_part (partial_view e.1)) (are_restricted_parts (parts_view es)) h).0 rest

-- the names of parts are the keys' texts
pub names-parts_view : (es : List (RcStr Global × PartialValue)) → map rc_str_bytes (keys_of es) ≡ names_of (parts_view es)
names-parts_view [] = refl
names-parts_view (e ∷ es) = ap (λ (ts : List Text). rc_str_bytes e.0 ∷ ts) (names-parts_view es)

below : (k : RcStr Global) (ks : List (RcStr Global)) → AllByRecursion (λ (l : RcStr Global). slice_cmp nat_cmp (rc_str_bytes k) (rc_str_bytes l) ≡ Less) ks → AllByRecursion (λ (t : Text). slice_cmp nat_cmp (rc_str_bytes k) t ≡ Less) (map rc_str_bytes ks)
below k [] h = h
below k (l ∷ ks) h = (h.0, below k ks h.1)

-- keys in order have texts in order
pub texts_in_order : (ks : List (RcStr Global)) → IsStrictlySortedBy (λ (k l : RcStr Global). slice_cmp nat_cmp (rc_str_bytes k) (rc_str_bytes l)) ks → IsStrictlySortedBy (slice_cmp nat_cmp) (map rc_str_bytes ks)
unfolding IsStrictlySortedBy
texts_in_order [] h = h
texts_in_order (k ∷ ks) h = (below k ks h.0, texts_in_order ks h.1)

-- so are the names of parts
pub names_in_order : (es : List (RcStr Global × PartialValue)) → IsStrictlySortedBy (λ (k l : RcStr Global). slice_cmp nat_cmp (rc_str_bytes k) (rc_str_bytes l)) (keys_of es) → IsStrictlySortedBy (slice_cmp nat_cmp) (names_of (parts_view es))
names_in_order es h =
    let P : List Text → Type 0 = λ ts. IsStrictlySortedBy (slice_cmp nat_cmp) ts in
    subst P (names-parts_view es) (texts_in_order (keys_of es) h)
