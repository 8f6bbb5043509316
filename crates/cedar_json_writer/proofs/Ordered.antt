-- Entries of a map: each key once, in order.
use Rattle.std.proofs.Common.{◌≡◌, ◌||◌, false, if◌then◌else◌, List, [], ◌∷◌, ◌++◌, None, Some, Global, Less, Greater}
use Rattle.std.proofs.Common.{refl, sym, ap, subst, ◌∙◌, append_assoc}
use Rattle.std.proofs.lemmas.Cmp.{nat_list_cmp_total}
use Rattle.std.proofs.lemmas.List.{append-nil}
use Rattle.std.specs.declared.rc.RcStr.{RcStr}
use Rattle.std.specs.Rc.{rc_str_bytes}
use Rattle.std.specs.Cmp.Lexicographic.{slice_cmp}
use Rattle.std.specs.List.{AllByRecursion, list_any}
use Rattle.std.specs.List.Sorted.{IsStrictlySortedBy}
use Rattle.std.specs.Map.{keys_of}
use Rattle.std.specs.Ordering.{ordering_reverse, nat_cmp, is_eq}
use Rattle.cedar_model.specs.Terms.{Text, one_field}
use Rattle.cedar_model.specs.Outcomes.{text_eq}
use Rattle.cedar_model.specs.Refusals.{first_repeated, first_repeated_after}
use Rattle.cedar_expressions.specs.declared.expr.Expr.{Expr}
use Rattle.cedar_expressions.specs.View.{view, fields_view}
use Rattle.cedar_expressions.specs.Records.{put_field, put_fields, fields_in_order, pairs_view}
use Rattle.cedar_expressions.proofs.Records.{Pairs, order, text_eq-order}
use Rattle.cedar_json_reader.specs.Said.{keys_of_pairs}
use Rattle.cedar_json_writer.specs.ReadBack.{pairs_in, AreInOrder}

pairs_are : (es : Pairs) → pairs_in (fields_view es) ≡ pairs_view es
pairs_are [] = refl
pairs_are (e ∷ es) = ap (λ ps. (rc_str_bytes e.0, view e.1) ∷ ps) (pairs_are es)

-- ---- in order

below_middle : (first e : RcStr Global × Expr) (es more : Pairs) → AllByRecursion (λ y. order first.0 y ≡ Less) (keys_of (es ++ e ∷ more)) → order first.0 e.0 ≡ Less
below_middle first e [] more h = h.0
below_middle first e (x ∷ es) more h = below_middle first e es more h.1

-- a key that is above those before it goes last
put_last : (done : Pairs) (e : RcStr Global × Expr) (more : Pairs) → IsStrictlySortedBy order (keys_of (done ++ e ∷ more))
    → put_field (fields_view done) (rc_str_bytes e.0) (view e.1) ≡ fields_view (done ++ e ∷ [])
unfolding IsStrictlySortedBy
put_last [] e more h = refl
put_last (first ∷ done) e more h =
    let above : slice_cmp nat_cmp (rc_str_bytes e.0) (rc_str_bytes first.0) ≡ Greater =
    nat_list_cmp_total.antisymm (rc_str_bytes e.0) (rc_str_bytes first.0) ∙ ap ordering_reverse (below_middle first e done more h.0) in
    rw above (ap (one_field (rc_str_bytes first.0) (view first.1)) (put_last done e more h.1))

all_put : (done more : Pairs) → IsStrictlySortedBy order (keys_of (done ++ more)) → put_fields (fields_view done) (pairs_view more) ≡ fields_view (done ++ more)
all_put done [] h = ap fields_view (sym (append-nil done))
all_put done (e ∷ more) h =
    ap (λ fs. put_fields fs (pairs_view more)) (put_last done e more h)
    ∙ all_put (done ++ e ∷ []) more (subst (λ es. IsStrictlySortedBy order (keys_of es)) (sym (append_assoc done (e ∷ []) more)) h)
    ∙ ap fields_view (append_assoc done (e ∷ []) more)

-- ---- each once

other : (k s : Text) → slice_cmp nat_cmp s k ≡ Less → text_eq k s ≡ false
other k s h =
    sym (text_eq-order k s) ∙ ap is_eq (nat_list_cmp_total.antisymm k s ∙ ap ordering_reverse h)

above_all : (k : Text) (seen : List Text) → AllByRecursion (λ s. slice_cmp nat_cmp s k ≡ Less) seen
    → list_any (text_eq k) seen ≡ false
above_all k [] h = refl
above_all k (s ∷ ss) h = ap (λ b. b || list_any (text_eq k) ss) (other k s h.0) ∙ above_all k ss h.1

abbrev IsBelow : Pairs → Text → Type 0
IsBelow es s = AllByRecursion (λ y. slice_cmp nat_cmp s (rc_str_bytes y) ≡ Less) (keys_of es)

firsts : (e : RcStr Global × Expr) (es : Pairs) (seen : List Text) → AllByRecursion (IsBelow (e ∷ es)) seen → AllByRecursion (λ s. slice_cmp nat_cmp s (rc_str_bytes e.0) ≡ Less) seen
firsts e es [] h = tt
firsts e es (s ∷ ss) h = (h.0.0, firsts e es ss h.1)

rests : (e : RcStr Global × Expr) (es : Pairs) (seen : List Text) → AllByRecursion (IsBelow (e ∷ es)) seen → AllByRecursion (IsBelow es) seen
rests e es [] h = tt
rests e es (s ∷ ss) h = (h.0.1, rests e es ss h.1)

-- all of a list and one more
with_last : (Such : Text → Type 0) (ts : List Text) (t : Text) → AllByRecursion Such ts → Such t
    → AllByRecursion Such (ts ++ t ∷ [])
with_last Such [] t all own = (own, tt)
with_last Such (s ∷ ss) t all own = (all.0, with_last Such ss t all.1 own)

fresh : (seen : List Text) (es : Pairs) → AllByRecursion (IsBelow es) seen → IsStrictlySortedBy order (keys_of es)
    → first_repeated_after seen (keys_of_pairs (pairs_view es)) ≡ None
unfolding IsStrictlySortedBy
fresh seen [] below h = refl
fresh seen (e ∷ es) below h =
    let k = rc_str_bytes e.0 in
    ap (λ b. if b then Some k else first_repeated_after (seen ++ k ∷ []) (keys_of_pairs (pairs_view es)))
    (above_all k seen (firsts e es seen below))
    ∙ fresh (seen ++ k ∷ []) es (with_last (IsBelow es) seen k (rests e es seen below) h.0) h.1

pub in_order : (es : Pairs) → IsStrictlySortedBy order (keys_of es) → AreInOrder (fields_view es)
in_order es h =
    (ap (λ ps. first_repeated (keys_of_pairs ps)) (pairs_are es) ∙ fresh [] es tt h, ap fields_in_order (pairs_are es) ∙ all_put [] es h)
