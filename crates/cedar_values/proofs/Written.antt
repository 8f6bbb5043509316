-- The expressions of the parts of a value, as they are collected.
use Rattle.std.proofs.Common.{◌≡◌, List, [], ◌∷◌, ◌++◌, map, Global, Ordering, Less, Equal, Greater, refl, ap, ◌∙◌}
use Rattle.std.proofs.lemmas.Cmp.{nat_list_cmp_total}
use Rattle.std.specs.declared.rc.RcStr.{RcStr}
use Rattle.std.specs.Rc.{rc_str_bytes}
use Rattle.std.specs.BTreeMap.{insert_entry}
use Rattle.std.specs.Cmp.Lexicographic.{slice_cmp}
use Rattle.std.specs.List.{AllByRecursion}
use Rattle.std.specs.List.Sorted.{IsStrictlySortedBy}
use Rattle.std.specs.Map.{keys_of}
use Rattle.std.specs.Ordering.{match_ordering, ordering_reverse, nat_cmp}
use Rattle.cedar_model.specs.Terms.{Text, Term, Fields, no_fields, one_field, one_term, terms_of}
use Rattle.cedar_model.specs.Values.{expression_of, expressions_of, expressions_at}
use Rattle.cedar_expressions.specs.declared.expr.Expr.{Expr}
use Rattle.cedar_expressions.specs.View.{view, fields_view}
use Rattle.cedar_values.specs.Sound.{Placed, whats_at}
use Rattle.cedar_values.proofs.SetOrder.{listed}

-- the expressions of a list of values
abbrev pub written : List Placed → List Term
written ps = map (λ p. expression_of p.what) ps

pub terms_of-written : (ps : List Placed) → terms_of (written ps) ≡ expressions_of (listed ps)
terms_of-written [] = refl
terms_of-written (p ∷ ps) = ap (one_term (expression_of p.what)) (terms_of-written ps)

abbrev pub Entry : Type 0
Entry = RcStr Global × Placed

abbrev pub key_cmp : RcStr Global → RcStr Global → Ordering
key_cmp k l = slice_cmp nat_cmp (rc_str_bytes k) (rc_str_bytes l)

-- the part in its place
unfoldable pub put : Text → Term → Fields → Fields
put k t no_fields = one_field k t no_fields
put k t (one_field l u fs) =
    match_ordering (slice_cmp nat_cmp k l) (one_field k t (one_field l u fs)) (one_field l t fs) (one_field l u (put k t fs))

fields_view-match_ordering : (o : Ordering) (a b c : List (RcStr Global × Expr)) → fields_view (match_ordering o a b c) ≡ match_ordering o (fields_view a) (fields_view b) (fields_view c)
fields_view-match_ordering Less a b c = refl
fields_view-match_ordering Equal a b c = refl
fields_view-match_ordering Greater a b c = refl

pub fields_view-insert_entry : (es : List (RcStr Global × Expr)) (k : RcStr Global) (e : Expr) → fields_view (insert_entry key_cmp es k e) ≡ put (rc_str_bytes k) (view e) (fields_view es)
unfolding put
fields_view-insert_entry [] k e = refl
fields_view-insert_entry (f ∷ es) k e = fields_view-match_ordering (key_cmp k f.0) _ _ _ ∙ rw (fields_view-insert_entry es k e)

pub below_middle : (first : Entry) (es : List Entry) (e : Entry) (more : List Entry) → AllByRecursion (λ y. key_cmp first.0 y ≡ Less) (keys_of (es ++ e ∷ more)) → key_cmp first.0 e.0 ≡ Less
below_middle first [] e more h = h.0
below_middle first (x ∷ es) e more h = below_middle first es e more h.1

-- a key that is above those before it goes last
pub put_last : (done : List Entry) (e : Entry) (more : List Entry) → IsStrictlySortedBy key_cmp (keys_of (done ++ e ∷ more))
    → put (rc_str_bytes e.0) (expression_of e.1.what) (expressions_at (whats_at done)) ≡ expressions_at (whats_at (done ++ e ∷ []))
unfolding IsStrictlySortedBy put
put_last [] e more h = refl
put_last (first ∷ done) e more h =
    let above : slice_cmp nat_cmp (rc_str_bytes e.0) (rc_str_bytes first.0) ≡ Greater =
    nat_list_cmp_total.antisymm (rc_str_bytes e.0) (rc_str_bytes first.0) ∙ ap ordering_reverse (below_middle first done e more h.0) in
    rw above (ap (one_field (rc_str_bytes first.0) (expression_of first.1.what)) (put_last done e more h.1))
