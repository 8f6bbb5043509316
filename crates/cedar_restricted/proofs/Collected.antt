-- Answers as they are collected.
use Rattle.std.proofs.Common.{◌≡◌, ◌||◌, Bool, true, false, List, [], ◌∷◌, ◌++◌, length, map, suc, Option, Some, None}
use Rattle.std.proofs.Common.{Global, Less, refl, sym, ap, ◌∙◌, subst}
use Rattle.std.specs.Cmp.Lexicographic.{slice_cmp}
use Rattle.std.specs.List.{AllByRecursion}
use Rattle.std.specs.List.Sorted.{IsStrictlySortedBy}
use Rattle.std.specs.Map.{keys_of}
use Rattle.std.specs.Ordering.{nat_cmp}
use Rattle.std.specs.Rc.{rc_str_bytes}
use Rattle.std.specs.declared.rc.RcStr.{RcStr}
use Rattle.cedar_model.specs.Terms.{Text, Term, Terms, no_terms, one_term, terms_of, one_field}
use Rattle.cedar_model.specs.Values.{Represented, expression_of, expressions_of}
use Rattle.cedar_model.specs.Sets.{represented_values_of}
use Rattle.cedar_model.specs.Shapes.{has_unknown, have_unknown, have_unknown_at}
use Rattle.cedar_model.specs.Failures.{PartialValue, value, residual, part_expression}
use Rattle.cedar_model.specs.Rules.{add_value, values_of_parts, terms_of_parts}
use Rattle.cedar_expressions.specs.declared.expr.Expr.{Expr}
use Rattle.cedar_expressions.specs.View.{view, terms_view, fields_view}
use Rattle.cedar_values.specs.Sound.{Placed, whats}
use Rattle.cedar_values.proofs.Written.{written}
use Rattle.cedar_expressions.specs.Nodes.{key_order}
use Rattle.cedar_restricted.specs.Keys.{texts_of, fields_named}
use Rattle.cedar_restricted.specs.Parts.{all_values}
use Rattle.cedar_restricted.specs.Steps.{HaveKeys}

-- one more value
all_values-append : (vs : List Placed) (v : Placed) → all_values (whats vs) ++ value v.what ∷ [] ≡
    all_values (whats (vs ++ v ∷ []))
all_values-append [] v = refl
all_values-append (w ∷ vs) v = ap (λ l. value w.what ∷ l) (all_values-append vs v)

pub value_added : (vs : List Placed) (v : Placed) (ps : List PartialValue) → ps ≡ all_values (whats vs) →
    ps ++ value v.what ∷ [] ≡ all_values (whats (vs ++ v ∷ []))
value_added vs v ps h = ap (λ l. l ++ value v.what ∷ []) h ∙ all_values-append vs v

-- values, written as expressions
pub terms-all : (vs : List Represented) → terms_of_parts (all_values vs) ≡ expressions_of (represented_values_of vs)
unfolding part_expression
terms-all [] = refl
terms-all (v ∷ vs) = ap (one_term (expression_of v)) (terms-all vs)

-- one more expression
pub term_added : (ps : List PartialValue) (es : List Expr) (p : PartialValue) (e : Expr) → terms_of_parts ps ≡
    terms_view es → view e ≡ part_expression p → terms_of_parts (ps ++ p ∷ []) ≡ terms_view (es ++ e ∷ [])
term_added [] [] p e h is = ap (λ t. one_term t no_terms) (sym is)
term_added [] (d ∷ es) p e h is = absurd (cc)
term_added (q ∷ ps) [] p e h is = absurd (cc)
term_added (q ∷ ps) (d ∷ es) p e h is =
    let head : part_expression q ≡ view d = cc in
    let rest : terms_of_parts ps ≡ terms_view es = cc in
    λ i. one_term (head i) (term_added ps es p e rest is i)

none_with : (v : Represented) (o : Option (List Represented)) → o ≡ None → add_value (value v) o ≡ None
unfolding add_value
none_with v o h = ap (add_value (value v)) h

none_before : (v : Represented) (o : Option (List Represented)) → add_value (value v) o ≡ None → o ≡ None
unfolding add_value
none_before v None h = refl
none_before v (Some vs) h = absurd (cc)

-- with a residual behind them not all are values
pub residual_added : (ps : List PartialValue) (r : _) → values_of_parts (ps ++ residual r ∷ []) ≡ None
unfolding values_of_parts add_value
residual_added [] r = refl
residual_added (value v ∷ ps) r = none_with v (values_of_parts (ps ++ residual r ∷ [])) (residual_added ps r)
residual_added (residual q ∷ ps) r = refl

-- nor with anything behind them, where they were not before
pub still_mixed : (ps : List PartialValue) (p : PartialValue) → values_of_parts ps ≡ None →
    values_of_parts (ps ++ p ∷ []) ≡ None
unfolding values_of_parts add_value
still_mixed [] p h = absurd (cc)
still_mixed (value v ∷ ps) p h =
    none_with v (values_of_parts (ps ++ p ∷ [])) (still_mixed ps p (none_before v (values_of_parts ps) h))
still_mixed (residual q ∷ ps) p h = refl

-- ---- unknowns

or_true : (a : Bool) → a || true ≡ true
or_true true = refl
or_true false = refl

pub unknown_last : (es : List Expr) (e : Expr) → has_unknown (view e) ≡ true →
    have_unknown (terms_view (es ++ e ∷ [])) ≡ true
unknown_last [] e h = ap (λ b. b || false) h
unknown_last (d ∷ es) e h = ap (λ b. has_unknown (view d) || b) (unknown_last es e h) ∙ or_true (has_unknown (view d))

or_cases : (a b c : Bool) → a || b ≡ true → (b ≡ true → c ≡ true) → a || c ≡ true
or_cases true b c h f = refl
or_cases false b c h f = f h

pub unknown_before : (es : List Expr) (e : Expr) → have_unknown (terms_view es) ≡ true →
    have_unknown (terms_view (es ++ e ∷ [])) ≡ true
unknown_before [] e h = absurd (cc)
unknown_before (d ∷ es) e h =
    or_cases (has_unknown (view d)) (have_unknown (terms_view es)) (have_unknown (terms_view (es ++ e ∷ []))) h
    (unknown_before es e)

-- under keys there are the same unknowns
pub unknown_named : (ks : List Text) (ts : Terms) → HaveKeys ks ts → have_unknown_at (fields_named ks ts) ≡
    have_unknown ts
unknown_named [] no_terms have = refl
unknown_named [] (one_term t ts) have = absurd have
unknown_named (k ∷ ks) no_terms have = absurd have
unknown_named (k ∷ ks) (one_term t ts) have = ap (λ b. has_unknown t || b) (unknown_named ks ts have)

-- ---- the keys and the parts of a record

abbrev pub names_under : {A : Type 0} → List (RcStr Global × A) → List Text
names_under es = map {B = Text} (λ e. rc_str_bytes e.0) es

abbrev pub views_under : List (RcStr Global × Expr) → List Term
views_under es = map {B = Term} (λ e. view e.1) es

-- one more key
pub name_added : (ks : List (RcStr Global)) (k copy : RcStr Global) (more left all : List Text) → texts_of ks ++ left ≡
    all → left ≡ rc_str_bytes k ∷ more → rc_str_bytes copy ≡ rc_str_bytes k → texts_of (ks ++ copy ∷ []) ++ more ≡ all
name_added ks k copy more left all h next same = texts_append ks copy more ∙ ap (λ t. texts_of ks ++ t ∷ more) same ∙
    ap (λ l. texts_of ks ++ l) (sym next) ∙ h
  where
    texts_append : (ks : List (RcStr Global)) (k : RcStr Global) (more : List Text) → texts_of (ks ++ k ∷ []) ++ more ≡
        texts_of ks ++ rc_str_bytes k ∷ more
    texts_append [] k more = refl
    texts_append (j ∷ ks) k more = ap (λ l. rc_str_bytes j ∷ l) (texts_append ks k more)

-- one more part
pub view_added : (es : List Expr) (e copy : Expr) (more left all : List Term) → map view es ++ left ≡ all → left ≡
    view e ∷ more → view copy ≡ view e → map view (es ++ copy ∷ []) ++ more ≡ all
view_added es e copy more left all h next same = views_append es copy more ∙ ap (λ t. map view es ++ t ∷ more) same ∙
    ap (λ l. map view es ++ l) (sym next) ∙ h
  where
    views_append : (es : List Expr) (e : Expr) (more : List Term) → map view (es ++ e ∷ []) ++ more ≡
        map view es ++ view e ∷ more
    views_append [] e more = refl
    views_append (d ∷ es) e more = ap (λ l. view d ∷ l) (views_append es e more)

fields-under : (es : List (RcStr Global × Expr)) → fields_named (names_under es) (terms_of (views_under es)) ≡
    fields_view es
fields-under [] = refl
fields-under (e ∷ es) = ap (one_field (rc_str_bytes e.0) (view e.1)) (fields-under es)

-- all of them
pub fields_of_all : (ks : List (RcStr Global)) (es : List Expr) (all : List (RcStr Global × Expr)) → texts_of ks ≡
    names_under all → map view es ≡ views_under all → fields_named (texts_of ks) (terms_view es) ≡ fields_view all
fields_of_all ks es all names views =
    ap (λ ts. fields_named ts (terms_view es)) names ∙ ap (λ vs. fields_named (names_under all) (terms_of vs)) views ∙
    fields-under all

all_below : {A : Type 0} (first : RcStr Global) (es : List (RcStr Global × A)) →
    AllByRecursion (λ y. key_order first y ≡ Less) (keys_of es) →
    AllByRecursion (λ y. slice_cmp nat_cmp (rc_str_bytes first) y ≡ Less) (names_under es)
all_below first [] h = h
all_below first (e ∷ es) h = (h.0, all_below first es h.1)

names_sorted : {A : Type 0} (es : List (RcStr Global × A)) → IsStrictlySortedBy key_order (keys_of es) →
    IsStrictlySortedBy (slice_cmp nat_cmp) (names_under es)
unfolding IsStrictlySortedBy
names_sorted [] h = h
names_sorted (e ∷ es) h = (all_below e.0 es h.0, names_sorted es h.1)

below_keys : (first : RcStr Global) (ks : List (RcStr Global)) →
    AllByRecursion (λ y. slice_cmp nat_cmp (rc_str_bytes first) y ≡ Less) (texts_of ks) →
    AllByRecursion (λ y. key_order first y ≡ Less) ks
below_keys first [] h = h
below_keys first (k ∷ ks) h = (h.0, below_keys first ks h.1)

keys_sorted : (ks : List (RcStr Global)) → IsStrictlySortedBy (slice_cmp nat_cmp) (texts_of ks) →
    IsStrictlySortedBy key_order ks
unfolding IsStrictlySortedBy
keys_sorted [] h = h
keys_sorted (k ∷ ks) h = (below_keys k ks h.0, keys_sorted ks h.1)

-- keys with the texts of a map's are in order
pub keys_in_order : {A : Type 0} (ks : List (RcStr Global)) (all : List (RcStr Global × A)) → texts_of ks ≡
    names_under all → IsStrictlySortedBy key_order (keys_of all) → IsStrictlySortedBy key_order ks
keys_in_order ks all names sorted =
    keys_sorted ks (subst (IsStrictlySortedBy (slice_cmp nat_cmp)) (sym names) (names_sorted all sorted))

-- ---- one more expression, by what it is of

pub residual_term_added : (ps : List PartialValue) (es : List Expr) (t : Term) (e : Expr) → terms_of_parts ps ≡
    terms_view es → view e ≡ t → terms_of_parts (ps ++ residual t ∷ []) ≡ terms_view (es ++ e ∷ [])
unfolding part_expression
residual_term_added ps es t e h is = term_added ps es (residual t) e h is

-- as many expressions as values that they are written from
pub as_many : (es : List Expr) (vs : List Placed) → map view es ≡ written vs → length es ≡ length vs
as_many [] [] h = refl
as_many [] (v ∷ vs) h = absurd (cc)
as_many (e ∷ es) [] h = absurd (cc)
as_many (e ∷ es) (v ∷ vs) h = let rest : map view es ≡ written vs = cc in ap suc (as_many es vs rest)
