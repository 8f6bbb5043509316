-- Values instead of unknowns, level by level, and over parts.
use Rattle.std.proofs.Common.{◌≡◌, ℕ, ◌≤◌, List, [], ◌∷◌, ◌++◌, map, length, take, Option, None, Some, Global, Less, Greater, refl, ap, ◌∙◌, subst}
use Rattle.std.proofs.lemmas.Cmp.{nat_list_cmp_total}
use Rattle.std.proofs.lemmas.List.{take_all}
use Rattle.std.specs.declared.rc.RcStr.{RcStr}
use Rattle.std.specs.Rc.{rc_str_bytes}
use Rattle.std.specs.BTreeMap.{insert_entry}
use Rattle.std.specs.Cmp.Lexicographic.{slice_cmp}
use Rattle.std.specs.List.{AllByRecursion}
use Rattle.std.specs.List.Sorted.{IsStrictlySortedBy}
use Rattle.std.specs.Map.{keys_of}
use Rattle.std.specs.Ordering.{ordering_reverse, nat_cmp}
use Rattle.cedar_model.specs.Terms.{Text, Literal, Variable, Slot, ValueType, UnaryOperator, BinaryOperator, PatternPart, Term, literal, variable, slot, unknown, if_then_else, both, either, unary, binary, call, get_attribute, has_attribute, extended_has, like, is_of_type, set_of, record_of, Terms, one_term, terms_of, Fields, no_fields, one_field}
use Rattle.cedar_model.specs.Values.{Represented, expression_of}
use Rattle.cedar_model.specs.Chains.{Mapping, value_for, substituted, substituted_each, substituted_at}
use Rattle.cedar_expressions.specs.declared.expr.Expr.{Expr}
use Rattle.cedar_expressions.specs.View.{view, terms_view, fields_view}
use Rattle.cedar_expressions.specs.Records.{put_field}
use Rattle.cedar_expressions.proofs.Records.{Pairs, order, put_field-entries}

pub value_for-none : (t : Term) → value_for None t ≡ t
unfolding value_for
value_for-none t = refl

pub value_for-some : (v : Represented) (t : Term) → value_for (Some v) t ≡ expression_of v
unfolding value_for
value_for-some v t = refl

module _ (m : Mapping) where
  pub substituted-literal : (l : Literal) → substituted m (literal l) ≡ literal l
  unfolding substituted
  substituted-literal l = refl

  pub substituted-variable : (v : Variable) → substituted m (variable v) ≡ variable v
  unfolding substituted
  substituted-variable v = refl

  pub substituted-slot : (i : Slot) → substituted m (slot i) ≡ slot i
  unfolding substituted
  substituted-slot i = refl

  pub substituted-unknown : (n : Text) (t : Option ValueType) → substituted m (unknown n t) ≡ value_for (m n) (unknown n t)
  unfolding substituted
  substituted-unknown n t = refl

  pub substituted-if : (c a b : Term) → substituted m (if_then_else c a b) ≡ if_then_else (substituted m c) (substituted m a) (substituted m b)
  unfolding substituted
  substituted-if c a b = refl

  pub substituted-both : (a b : Term) → substituted m (both a b) ≡ both (substituted m a) (substituted m b)
  unfolding substituted
  substituted-both a b = refl

  pub substituted-either : (a b : Term) → substituted m (either a b) ≡ either (substituted m a) (substituted m b)
  unfolding substituted
  substituted-either a b = refl

  pub substituted-unary : (op : UnaryOperator) (a : Term) → substituted m (unary op a) ≡ unary op (substituted m a)
  unfolding substituted
  substituted-unary op a = refl

  pub substituted-binary : (op : BinaryOperator) (a b : Term) → substituted m (binary op a b) ≡ binary op (substituted m a) (substituted m b)
  unfolding substituted
  substituted-binary op a b = refl

  pub substituted-call : (f : Text) (ts : Terms) → substituted m (call f ts) ≡ call f (substituted_each m ts)
  unfolding substituted
  substituted-call f ts = refl

  pub substituted-get : (a : Term) (k : Text) → substituted m (get_attribute a k) ≡ get_attribute (substituted m a) k
  unfolding substituted
  substituted-get a k = refl

  pub substituted-has : (a : Term) (k : Text) → substituted m (has_attribute a k) ≡ has_attribute (substituted m a) k
  unfolding substituted
  substituted-has a k = refl

  pub substituted-extended : (a : Term) (k : Text) (ks : List Text) → substituted m (extended_has a k ks) ≡ extended_has (substituted m a) k ks
  unfolding substituted
  substituted-extended a k ks = refl

  pub substituted-like : (a : Term) (p : List PatternPart) → substituted m (like a p) ≡ like (substituted m a) p
  unfolding substituted
  substituted-like a p = refl

  pub substituted-is : (a : Term) (t : Text) → substituted m (is_of_type a t) ≡ is_of_type (substituted m a) t
  unfolding substituted
  substituted-is a t = refl

  pub substituted-set : (ts : Terms) → substituted m (set_of ts) ≡ set_of (substituted_each m ts)
  unfolding substituted
  substituted-set ts = refl

  pub substituted-record : (fs : Fields) → substituted m (record_of fs) ≡ record_of (substituted_at m fs)
  unfolding substituted
  substituted-record fs = refl

  pub substituted_at-none : substituted_at m no_fields ≡ no_fields
  unfolding substituted_at
  substituted_at-none = refl

  -- the terms of expressions, each with the map's values
  abbrev pub replaced : List Expr → List Term
  replaced es = map (λ e. substituted m (view e)) es

  pub terms_of-replaced : (es : List Expr) → terms_of (replaced es) ≡ substituted_each m (terms_view es)
  unfolding substituted_each
  terms_of-replaced [] = refl
  terms_of-replaced (e ∷ es) = ap (one_term (substituted m (view e))) (terms_of-replaced es)

  -- the new parts of a list that was walked to its end, of which s is the slice
  pub replaced_all : (es s : List Expr) (i : ℕ) (ts : List Term) → s ≡ es → length s ≤ i → ts ≡ replaced (take i es) → terms_of ts ≡ substituted_each m (terms_view es)
  replaced_all es s i ts whole all done =
      ap terms_of (done ∙ ap replaced (take_all i es (subst (λ v. length v ≤ i) whole all))) ∙ terms_of-replaced es

  -- a key that is above those before it goes last
  pub put_last : (done : Pairs) (key : RcStr Global) (part : Expr) (more : Pairs) → IsStrictlySortedBy order (keys_of (done ++ (key, part) ∷ more))
      → put_field (substituted_at m (fields_view done)) (rc_str_bytes key) (substituted m (view part)) ≡ substituted_at m (fields_view (done ++ (key, part) ∷ []))
  unfolding IsStrictlySortedBy substituted_at
  put_last [] key part more h = refl
  put_last (first ∷ done) key part more h =
      let above : slice_cmp nat_cmp (rc_str_bytes key) (rc_str_bytes first.0) ≡ Greater =
      nat_list_cmp_total.antisymm (rc_str_bytes key) (rc_str_bytes first.0) ∙ ap ordering_reverse (below_middle first done more h.0) in
      rw above (ap (one_field (rc_str_bytes first.0) (substituted m (view first.1))) (put_last done key part more h.1))
    where
      below_middle : (first : RcStr Global × Expr) (es more : Pairs) → AllByRecursion (λ y. order first.0 y ≡ Less) (keys_of (es ++ (key, part) ∷ more)) → order first.0 key ≡ Less
      below_middle first [] more h = h.0
      below_middle first (x ∷ es) more h = below_middle first es more h.1

  -- one more entry of a map is put under its key, after those before it
  pub put_step : (old new done more : Pairs) (name key : RcStr Global) (made part : Expr) → IsStrictlySortedBy order (keys_of (done ++ (key, part) ∷ more)) → new ≡ insert_entry order old name made
      → rc_str_bytes name ≡ rc_str_bytes key → view made ≡ substituted m (view part) → fields_view old ≡ substituted_at m (fields_view done)
      → fields_view new ≡ substituted_at m (fields_view (done ++ (key, part) ∷ []))
  put_step old new done more name key made part sorted put named seen before =
      ap fields_view put ∙ put_field-entries old name made ∙ (λ i. put_field (before i) (named i) (seen i)) ∙ put_last done key part more sorted

pub ruleset levels = (value_for-none, value_for-some, substituted-literal, substituted-variable, substituted-slot, substituted-unknown, substituted-if, substituted-both, substituted-either, substituted-unary, substituted-binary, substituted-call, substituted-get, substituted-has, substituted-extended, substituted-like, substituted-is, substituted-set, substituted-record)
