-- A walk over the pairs of a record, which are put into a map in turn.
use Rattle.std.proofs.Common.{◌≡◌, Bool, true, false, ◌||◌, cond, if◌then◌else◌, List, [], ◌∷◌, ◌++◌, Option, None}
use Rattle.std.proofs.Common.{Some, Global, refl, sym, ap, ◌∙◌}
use Rattle.std.specs.declared.cmp.Ordering.{Ordering}
use Rattle.std.specs.declared.cmp.Ordering.TheVariants.{Less, Equal, Greater}
use Rattle.std.specs.declared.rc.RcStr.{RcStr}
use Rattle.std.specs.Rc.{rc_str_bytes}
use Rattle.std.specs.Option.{is_some}
use Rattle.std.specs.Ordering.{nat_cmp, is_eq, match_ordering}
use Rattle.std.specs.Cmp.Lexicographic.{slice_cmp, texts_ties}
use Rattle.std.specs.List.{list_any}
use Rattle.std.specs.BTreeMap.{insert_entry, is_at}
use Rattle.std.specs.Map.{lookup}
use Rattle.std.proofs.lemmas.List.Folds.{list_any-append}
use Rattle.std.proofs.Math.Bool.{or_self_left}
use Rattle.cedar_model.specs.Terms.{Text, one_field}
use Rattle.cedar_model.specs.Outcomes.{text_eq}
use Rattle.cedar_model.specs.Refusals.{first_repeated_after}
use Rattle.cedar_model.specs.lemmas.Sets.{or_swap}
use Rattle.cedar_expressions.specs.declared.expr.Expr.{Expr}
use Rattle.cedar_names.specs.EqualityLaws.{text_eq-decides}
use Rattle.cedar_expressions.specs.View.{view, fields_view}
use Rattle.cedar_expressions.specs.declared.errors.ExpressionConstructionError.{ExpressionConstructionError}
use Rattle.cedar_expressions.specs.declared.errors.ExpressionConstructionError.TheVariants.{DuplicateKey, Memory}
use Rattle.cedar_expressions.specs.Errors.{IsRefusalOf}
use Rattle.cedar_expressions.specs.Records.{repeated_key, put_field, put_fields, fields_in_order, pairs_view, keys_view}
use Rattle.cedar_expressions.specs.Nodes.{key_order, with_entries, entries_in_order}

-- `==` of texts, by their order
pub text_eq-order : (k l : Text) → is_eq (slice_cmp nat_cmp k l) ≡ text_eq k l
text_eq-order k l = sym (texts_ties k l)

abbrev pub Pairs : Type 0
Pairs = List (RcStr Global × Expr)

abbrev pub order : RcStr Global → RcStr Global → Ordering
order = key_order

-- a map with one more entry has the fields with one more
pub put_field-entries : (es : Pairs) (k : RcStr Global) (e : Expr) → fields_view (insert_entry order es k e) ≡ put_field (fields_view es) (rc_str_bytes k) (view e)
put_field-entries [] k e = refl
put_field-entries (p ∷ es) k e = at_order (order k p.0) (put_field-entries es k e)
  where
    at_order : (o : Ordering) → fields_view (insert_entry order es k e) ≡ put_field (fields_view es) (rc_str_bytes k) (view e) → fields_view (match_ordering o ((k, e) ∷ p ∷ es) ((p.0, e) ∷ es) (p ∷ insert_entry order es k e)) ≡ match_ordering o (one_field (rc_str_bytes k) (view e) (one_field (rc_str_bytes p.0) (view p.1) (fields_view es))) (one_field (rc_str_bytes p.0) (view e) (fields_view es)) (one_field (rc_str_bytes p.0) (view p.1) (put_field (fields_view es) (rc_str_bytes k) (view e)))
    at_order Less rest = refl
    at_order Equal rest = refl
    at_order Greater rest = ap (one_field (rc_str_bytes p.0) (view p.1)) rest

-- entries that are put in one after the other have the fields that are
pub put_fields-with_entries : (es ps : Pairs) → fields_view (with_entries es ps) ≡ put_fields (fields_view es) (pairs_view ps)
put_fields-with_entries es [] = refl
put_fields-with_entries es (p ∷ ps) =
    put_fields-with_entries (insert_entry order es p.0 p.1) ps ∙ ap (λ fs. put_fields fs (pairs_view ps)) (put_field-entries es p.0 p.1)

pub fields_in_order-entries : (ps : Pairs) → fields_view (entries_in_order ps) ≡ fields_in_order (pairs_view ps)
fields_in_order-entries ps = put_fields-with_entries [] ps

-- whether a map has a key
pub has_key : (es : Pairs) (k : RcStr Global)
    → is_some (lookup (is_at (order k)) es) ≡ list_any (text_eq (rc_str_bytes k)) (keys_view es)
has_key [] k = refl
has_key (p ∷ es) k =
    found (is_eq (order k p.0)) (Some p.1) (lookup (is_at (order k)) es) refl ∙ ap (λ b. b || is_some (lookup (is_at (order k)) es)) (text_eq-order (rc_str_bytes k) (rc_str_bytes p.0)) ∙ ap (λ b. text_eq (rc_str_bytes k) (rc_str_bytes p.0) || b) (has_key es k)
  where
    found : (b : Bool) (x y : Option Expr) → is_some x ≡ true → is_some (cond b x y) ≡ (b || is_some y)
    found true x y h = h
    found false x y h = refl

-- what was seen matters only by what it has
pub seen_alike : (ks ls ms : List Text) → ((k : Text) → list_any (text_eq k) ls ≡ list_any (text_eq k) ms)
    → first_repeated_after ls ks ≡ first_repeated_after ms ks
seen_alike [] ls ms same = refl
seen_alike (k ∷ ks) ls ms same =
    λ i. if same k i then Some k else seen_alike ks (ls ++ k ∷ []) (ms ++ k ∷ []) one_more i
  where
    one_more : (l : Text) → list_any (text_eq l) (ls ++ k ∷ []) ≡ list_any (text_eq l) (ms ++ k ∷ [])
    one_more l =
        list_any-append (text_eq l) ls (k ∷ [])
        ∙ ap (λ b. b || list_any (text_eq l) (k ∷ [])) (same l)
        ∙ sym (list_any-append (text_eq l) ms (k ∷ []))

-- one more text is among them, be it put in front or behind
pub behind_or_before : (l k : Text) (ks : List Text)
    → list_any (text_eq l) (ks ++ k ∷ []) ≡ list_any (text_eq l) (k ∷ ks)
behind_or_before l k ks = list_any-append (text_eq l) ks (k ∷ []) ∙ turned (list_any (text_eq l) ks) (text_eq l k)
  where
    turned : (x y : Bool) → (x || (y || false)) ≡ (y || x)
    turned true true = refl
    turned true false = refl
    turned false true = refl
    turned false false = refl

-- a map with one more key has the keys with one more
more_keys : (es : Pairs) (k : RcStr Global) (e : Expr) (l : Text)
    → list_any (text_eq l) (rc_str_bytes k ∷ keys_view es)
    ≡ list_any (text_eq l) (keys_view (insert_entry order es k e))
more_keys [] k e l = refl
more_keys (p ∷ es) k e l =
    at_order (order k p.0) refl (more_keys es k e l)
  where
    at_order : (o : Ordering) → order k p.0 ≡ o
        → list_any (text_eq l) (rc_str_bytes k ∷ keys_view es)
        ≡ list_any (text_eq l) (keys_view (insert_entry order es k e))
        → list_any (text_eq l) (rc_str_bytes k ∷ keys_view (p ∷ es))
        ≡ list_any (text_eq l)
        (keys_view (match_ordering o ((k, e) ∷ p ∷ es) ((p.0, e) ∷ es) (p ∷ insert_entry order es k e)))
    at_order Less h rest = refl
    at_order Equal h rest =
        let a = rc_str_bytes k in
        let b = rc_str_bytes p.0 in
        let rest : Bool = list_any (text_eq l) (keys_view es) in
        let same : a ≡ b = (text_eq-decides a b).0 (sym (text_eq-order a b) ∙ ap is_eq h) in
        ap (λ t. text_eq l t || (text_eq l b || rest)) same ∙ or_self_left (text_eq l b) rest
    at_order Greater h rest =
        or_swap (text_eq l (rc_str_bytes k)) (text_eq l (rc_str_bytes p.0)) (list_any (text_eq l) (keys_view es))
        ∙ ap (λ b. text_eq l (rc_str_bytes p.0) || b) rest

pub repeated-step : (es : Pairs) (k : RcStr Global) (e : Expr) (ks : List Text)
    → is_some (lookup (is_at (order k)) es) ≡ false
    → first_repeated_after (keys_view es) (rc_str_bytes k ∷ ks)
    ≡ first_repeated_after (keys_view (insert_entry order es k e)) ks
repeated-step es k e ks h =
    let key = rc_str_bytes k in
    ap (λ b. if b then Some key else first_repeated_after (keys_view es ++ key ∷ []) ks) (sym (has_key es k) ∙ h)
    ∙ seen_alike ks (keys_view es ++ key ∷ []) (keys_view (insert_entry order es k e))
    (λ l. behind_or_before l key (keys_view es) ∙ more_keys es k e l)

pub repeated-here : (es : Pairs) (k : RcStr Global) → is_some (lookup (is_at (order k)) es) ≡ true → repeated_key (keys_view es) (rc_str_bytes k) ≡ Some (rc_str_bytes k)
repeated-here es k h = ap (λ b. if b then Some (rc_str_bytes k) else None) (sym (has_key es k) ∙ h)

-- a refusal of a key that is there is one of the first duplicate key, where the key comes next
pub refusal_again : (seen : List Text) (k : Text) (more : List Text) (place : Text) (e : ExpressionConstructionError)
    → IsRefusalOf (repeated_key seen k) place e → IsRefusalOf (first_repeated_after seen (k ∷ more)) place e
refusal_again seen k more place (DuplicateKey key context) h =
    (at_test (list_any (text_eq k) seen) (first_repeated_after (seen ++ k ∷ []) more) h.0, h.1)
  where
    at_test : (b : Bool) (rest : Option Text) → (if b then Some k else None) ≡ Some (rc_str_bytes key)
        → (if b then Some k else rest) ≡ Some (rc_str_bytes key)
    at_test true rest q = q
    at_test false rest q = absurd (cc)
refusal_again seen k more place (Memory error) h = h

pub ruleset steps = (repeated-here, refusal_again, fields_in_order-entries)
