-- A walk over values and their names, which are put into a map in turn.
use Rattle.std.proofs.Common.{◌≡◌, Bool, true, false, ◌||◌, cond, if◌then◌else◌, List, [], ◌∷◌, ◌++◌, Option, None}
use Rattle.std.proofs.Common.{Some, Global, refl, sym, ap, ◌∙◌}
use Rattle.std.specs.declared.cmp.Ordering.{Ordering}
use Rattle.std.specs.declared.cmp.Ordering.TheVariants.{Less, Equal, Greater}
use Rattle.std.specs.declared.rc.RcStr.{RcStr}
use Rattle.std.specs.Rc.{rc_str_bytes}
use Rattle.std.specs.Option.{is_some}
use Rattle.std.specs.Ordering.{is_eq, match_ordering}
use Rattle.std.specs.BTreeMap.{insert_entry, is_at}
use Rattle.std.specs.Map.{lookup}
use Rattle.std.specs.List.{list_any}
use Rattle.std.proofs.Math.Bool.{or_self_left}
use Rattle.cedar_model.specs.Terms.{Text}
use Rattle.cedar_model.specs.Values.{one_represented_at}
use Rattle.cedar_model.specs.Outcomes.{text_eq}
use Rattle.cedar_model.specs.Refusals.{first_repeated_after}
use Rattle.cedar_model.specs.lemmas.Sets.{or_swap}
use Rattle.cedar_names.specs.EqualityLaws.{text_eq-decides}
use Rattle.cedar_expressions.specs.Nodes.{key_order}
use Rattle.cedar_expressions.specs.Records.{repeated_key}
use Rattle.cedar_expressions.proofs.Records.{text_eq-order, seen_alike, behind_or_before}
use Rattle.cedar_expressions.specs.declared.errors.ExpressionConstructionError.TheVariants as constructions
use Rattle.cedar_values.specs.Sound.{Placed, whats_at}
use Rattle.cedar_requests.specs.declared.errors.ContextCreationError.{ContextCreationError}
use Rattle.cedar_requests.specs.declared.errors.ContextCreationError.TheVariants as refusals
use Rattle.cedar_requests.specs.Named.{entry_names, put_value, IsRefusalOfName}

abbrev Entries : Type 0
Entries = List (RcStr Global × Placed)

-- a map with one more entry has the values with one more
pub put_value-entries : (es : Entries) (k : RcStr Global) (v : Placed)
    → whats_at (insert_entry key_order es k v) ≡ put_value (whats_at es) (rc_str_bytes k) v.what
put_value-entries [] k v = refl
put_value-entries (p ∷ es) k v = at_order (key_order k p.0) (put_value-entries es k v)
  where
    at_order : (o : Ordering) → whats_at (insert_entry key_order es k v) ≡ put_value (whats_at es) (rc_str_bytes k) v.what
        → whats_at (match_ordering o ((k, v) ∷ p ∷ es) ((p.0, v) ∷ es) (p ∷ insert_entry key_order es k v))
        ≡ match_ordering o (one_represented_at (rc_str_bytes k) v.what (one_represented_at (rc_str_bytes p.0) p.1.what (whats_at es)))
        (one_represented_at (rc_str_bytes p.0) v.what (whats_at es))
        (one_represented_at (rc_str_bytes p.0) p.1.what (put_value (whats_at es) (rc_str_bytes k) v.what))
    at_order Less rest = refl
    at_order Equal rest = refl
    at_order Greater rest = ap (one_represented_at (rc_str_bytes p.0) p.1.what) rest

-- whether a map has a key
has_key : (es : Entries) (k : RcStr Global)
    → is_some (lookup (is_at (key_order k)) es) ≡ list_any (text_eq (rc_str_bytes k)) (entry_names es)
has_key [] k = refl
has_key (p ∷ es) k =
    found (is_eq (key_order k p.0)) (Some p.1) (lookup (is_at (key_order k)) es) refl
    ∙ ap (λ b. b || is_some (lookup (is_at (key_order k)) es)) (text_eq-order (rc_str_bytes k) (rc_str_bytes p.0))
    ∙ ap (λ b. text_eq (rc_str_bytes k) (rc_str_bytes p.0) || b) (has_key es k)
  where
    found : (b : Bool) (x y : Option Placed) → is_some x ≡ true → is_some (cond b x y) ≡ (b || is_some y)
    found true x y h = h
    found false x y h = refl

-- a map with one more key has the keys with one more
more_names : (es : Entries) (k : RcStr Global) (v : Placed) (l : Text)
    → list_any (text_eq l) (rc_str_bytes k ∷ entry_names es)
    ≡ list_any (text_eq l) (entry_names (insert_entry key_order es k v))
more_names [] k v l = refl
more_names (p ∷ es) k v l =
    at_order (key_order k p.0) refl (more_names es k v l)
  where
    at_order : (o : Ordering) → key_order k p.0 ≡ o
        → list_any (text_eq l) (rc_str_bytes k ∷ entry_names es)
        ≡ list_any (text_eq l) (entry_names (insert_entry key_order es k v))
        → list_any (text_eq l) (rc_str_bytes k ∷ entry_names (p ∷ es))
        ≡ list_any (text_eq l)
        (entry_names (match_ordering o ((k, v) ∷ p ∷ es) ((p.0, v) ∷ es) (p ∷ insert_entry key_order es k v)))
    at_order Less h rest = refl
    at_order Equal h rest =
        let a = rc_str_bytes k in
        let b = rc_str_bytes p.0 in
        let rest : Bool = list_any (text_eq l) (entry_names es) in
        let same : a ≡ b = (text_eq-decides a b).0 (sym (text_eq-order a b) ∙ ap is_eq h) in
        ap (λ t. text_eq l t || (text_eq l b || rest)) same ∙ or_self_left (text_eq l b) rest
    at_order Greater h rest =
        or_swap (text_eq l (rc_str_bytes k)) (text_eq l (rc_str_bytes p.0)) (list_any (text_eq l) (entry_names es))
        ∙ ap (λ b. text_eq l (rc_str_bytes p.0) || b) rest

pub names-step : (es : Entries) (k : RcStr Global) (v : Placed) (ks : List Text)
    → is_some (lookup (is_at (key_order k)) es) ≡ false
    → first_repeated_after (entry_names es) (rc_str_bytes k ∷ ks)
    ≡ first_repeated_after (entry_names (insert_entry key_order es k v)) ks
names-step es k v ks h =
    let name = rc_str_bytes k in
    ap (λ b. if b then Some name else first_repeated_after (entry_names es ++ name ∷ []) ks) (sym (has_key es k) ∙ h)
    ∙ seen_alike ks (entry_names es ++ name ∷ []) (entry_names (insert_entry key_order es k v))
    (λ l. behind_or_before l name (entry_names es) ∙ more_names es k v l)

pub repeated-here : (es : Entries) (k : RcStr Global) → is_some (lookup (is_at (key_order k)) es) ≡ true
    → Some (rc_str_bytes k) ≡ repeated_key (entry_names es) (rc_str_bytes k)
repeated-here es k h = sym (ap (λ b. if b then Some (rc_str_bytes k) else None) (sym (has_key es k) ∙ h))

-- a refusal of a name that is there is one of the first duplicate name, where it comes next
pub refusal_again : (seen : List Text) (k : Text) (more : List Text) (e : ContextCreationError)
    → IsRefusalOfName (repeated_key seen k) e → IsRefusalOfName (first_repeated_after seen (k ∷ more)) e
refusal_again seen k more (refusals.NotARecord e) h = h
refusal_again seen k more (refusals.Evaluation e) h = h
refusal_again seen k more (refusals.ExpressionConstruction (constructions.DuplicateKey key context)) h =
    (at_test (list_any (text_eq k) seen) (first_repeated_after (seen ++ k ∷ []) more) h.0, h.1)
  where
    at_test : (b : Bool) (rest : Option Text) → (if b then Some k else None) ≡ Some (rc_str_bytes key)
        → (if b then Some k else rest) ≡ Some (rc_str_bytes key)
    at_test true rest q = q
    at_test false rest q = absurd (cc)
refusal_again seen k more (refusals.ExpressionConstruction (constructions.Memory e)) h = h
refusal_again seen k more (refusals.Memory e) h = h

pub ruleset steps = (put_value-entries, repeated-here, refusal_again)
