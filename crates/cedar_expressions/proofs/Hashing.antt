-- What an expression feeds a hasher, step by step.
use Rattle.std.proofs.Common.{◌≡◌, ℕ, ◌+◌, List, [], ◌∷◌, ◌++◌, ◌<◌, ◌≤◌, length, drop, get_or, pos, fold, Option, refl, sym, ap, subst, ◌∙◌}
use Rattle.std.proofs.lemmas.List.{drop_more, drop_all}
use Rattle.std.specs.Hash as fed
use Rattle.std.specs.Hash.{HashWrites}
use Rattle.cedar_model.specs.Terms as model
use Rattle.cedar_model.specs.Terms.{Text, ValueType, UnaryOperator, BinaryOperator, PatternPart, Term, literal, variable, slot, unknown, if_then_else, both, either, unary, binary, call, get_attribute, has_attribute, extended_has, like, is_of_type, set_of, record_of, Terms, no_terms, one_term, Fields, no_fields, one_field}
use Rattle.cedar_model.specs.lemmas.Codes.{variable_number, slot_number, unary_number, binary_number}
use Rattle.cedar_expressions.specs.declared.expr.Expr.{Expr}
use Rattle.cedar_expressions.specs.View.{view, terms_view}
use Rattle.cedar_names.specs.Hashing.{fed_literal, fed_annotation, fed_pattern, fed_texts, fed_term, fed_terms, fed_fields}

module _ {S : Type 0} (write : S → List ℕ → S) (s : S) where
  -- the writes us, and then the writes vs
  then_fed : (us vs : HashWrites) → fold write s (us ++ vs) ≡ fold write (fold write s us) vs
  then_fed us vs = joined s us
    where
      joined : (t : S) (ws : HashWrites) → fold write t (ws ++ vs) ≡ fold write (fold write t ws) vs
      joined t [] = refl
      joined t (w ∷ ws) = joined (write t w) ws

module _ {S : Type 0} (write : S → List ℕ → S) (s : S) where
  one_fed : (n : ℕ) (us vs : HashWrites) → fold write s (fed.u8 n ++ (us ++ vs)) ≡ fold write (fold write (fold write s (fed.u8 n)) us) vs
  one_fed n us vs = then_fed write (fold write s (fed.u8 n)) us vs

  two_fed : (n : ℕ) (us vs ws : HashWrites) → fold write s (fed.u8 n ++ (us ++ (vs ++ ws))) ≡ fold write (fold write (fold write (fold write s (fed.u8 n)) us) vs) ws
  two_fed n us vs ws =
      one_fed n us (vs ++ ws) ∙ then_fed write (fold write (fold write s (fed.u8 n)) us) vs ws

  pub fed-literal : (l : model.Literal) → fold write s (fed_term (literal l)) ≡ fold write (fold write s (fed.u8 0)) (fed_literal l)
  unfolding fed_term fed_terms fed_fields
  fed-literal l = refl

  pub fed-variable : (v : model.Variable) → fold write s (fed_term (variable v)) ≡ fold write (fold write s (fed.u8 1)) (fed.isize (pos (variable_number v)))
  unfolding fed_term fed_terms fed_fields
  fed-variable v = refl

  pub fed-slot : (o : model.Slot) → fold write s (fed_term (slot o)) ≡ fold write (fold write s (fed.u8 2)) (fed.isize (pos (slot_number o)))
  unfolding fed_term fed_terms fed_fields
  fed-slot o = refl

  pub fed-unknown : (n : Text) (t : Option ValueType) → fold write s (fed_term (unknown n t)) ≡ fold write (fold write (fold write s (fed.u8 3)) (fed.str n)) (fed_annotation t)
  unfolding fed_term fed_terms fed_fields
  fed-unknown n t = one_fed 3 (fed.str n) (fed_annotation t)

  pub fed-if_then_else : (c : Term) (a : Term) (b : Term) → fold write s (fed_term (if_then_else c a b)) ≡ fold write (fold write (fold write (fold write s (fed.u8 4)) (fed_term c)) (fed_term a)) (fed_term b)
  unfolding fed_term fed_terms fed_fields
  fed-if_then_else c a b = two_fed 4 (fed_term c) (fed_term a) (fed_term b)

  pub fed-both : (a : Term) (b : Term) → fold write s (fed_term (both a b)) ≡ fold write (fold write (fold write s (fed.u8 5)) (fed_term a)) (fed_term b)
  unfolding fed_term fed_terms fed_fields
  fed-both a b = one_fed 5 (fed_term a) (fed_term b)

  pub fed-either : (a : Term) (b : Term) → fold write s (fed_term (either a b)) ≡ fold write (fold write (fold write s (fed.u8 6)) (fed_term a)) (fed_term b)
  unfolding fed_term fed_terms fed_fields
  fed-either a b = one_fed 6 (fed_term a) (fed_term b)

  pub fed-unary : (o : UnaryOperator) (a : Term) → fold write s (fed_term (unary o a)) ≡ fold write (fold write (fold write s (fed.u8 7)) (fed.isize (pos (unary_number o)))) (fed_term a)
  unfolding fed_term fed_terms fed_fields
  fed-unary o a = one_fed 7 (fed.isize (pos (unary_number o))) (fed_term a)

  pub fed-binary : (o : BinaryOperator) (a : Term) (b : Term) → fold write s (fed_term (binary o a b)) ≡ fold write (fold write (fold write (fold write s (fed.u8 8)) (fed.isize (pos (binary_number o)))) (fed_term a)) (fed_term b)
  unfolding fed_term fed_terms fed_fields
  fed-binary o a b = two_fed 8 (fed.isize (pos (binary_number o))) (fed_term a) (fed_term b)

  pub fed-call : (f : Text) (ts : Terms) → fold write s (fed_term (call f ts)) ≡ fold write (fold write (fold write s (fed.u8 9)) (fed.str f)) (fed_terms ts)
  unfolding fed_term fed_terms fed_fields
  fed-call f ts = one_fed 9 (fed.str f) (fed_terms ts)

  pub fed-get_attribute : (a : Term) (k : Text) → fold write s (fed_term (get_attribute a k)) ≡ fold write (fold write (fold write s (fed.u8 10)) (fed_term a)) (fed.str k)
  unfolding fed_term fed_terms fed_fields
  fed-get_attribute a k = one_fed 10 (fed_term a) (fed.str k)

  pub fed-has_attribute : (a : Term) (k : Text) → fold write s (fed_term (has_attribute a k)) ≡ fold write (fold write (fold write s (fed.u8 11)) (fed_term a)) (fed.str k)
  unfolding fed_term fed_terms fed_fields
  fed-has_attribute a k = one_fed 11 (fed_term a) (fed.str k)

  pub fed-extended_has : (a : Term) (k : Text) (ks : List Text) → fold write s (fed_term (extended_has a k ks)) ≡ fold write (fold write (fold write (fold write s (fed.u8 12)) (fed_term a)) (fed.str k)) (fed_texts ks)
  unfolding fed_term fed_terms fed_fields
  fed-extended_has a k ks = two_fed 12 (fed_term a) (fed.str k) (fed_texts ks)

  pub fed-like : (a : Term) (p : List PatternPart) → fold write s (fed_term (like a p)) ≡ fold write (fold write (fold write s (fed.u8 13)) (fed_term a)) (fed_pattern p)
  unfolding fed_term fed_terms fed_fields
  fed-like a p = one_fed 13 (fed_term a) (fed_pattern p)

  pub fed-is_of_type : (a : Term) (t : Text) → fold write s (fed_term (is_of_type a t)) ≡ fold write (fold write (fold write s (fed.u8 14)) (fed_term a)) (fed.str t)
  unfolding fed_term fed_terms fed_fields
  fed-is_of_type a t = one_fed 14 (fed_term a) (fed.str t)

  pub fed-set_of : (ts : Terms) → fold write s (fed_term (set_of ts)) ≡ fold write (fold write s (fed.u8 15)) (fed_terms ts)
  unfolding fed_term fed_terms fed_fields
  fed-set_of ts = refl

  pub fed-record_of : (fs : Fields) → fold write s (fed_term (record_of fs)) ≡ fold write (fold write s (fed.u8 16)) (fed_fields fs)
  unfolding fed_term fed_terms fed_fields
  fed-record_of fs = refl

  pub fed-no_terms : fold write s (fed_terms no_terms) ≡ fold write s (fed.u8 0)
  unfolding fed_term fed_terms fed_fields
  fed-no_terms = refl

  pub fed-one_term : (t : Term) (ts : Terms) → fold write s (fed_terms (one_term t ts)) ≡ fold write (fold write (fold write s (fed.u8 1)) (fed_term t)) (fed_terms ts)
  unfolding fed_term fed_terms fed_fields
  fed-one_term t ts = one_fed 1 (fed_term t) (fed_terms ts)

  pub fed-no_fields : fold write s (fed_fields no_fields) ≡ fold write s (fed.u8 0)
  unfolding fed_term fed_terms fed_fields
  fed-no_fields = refl

  pub fed-one_field : (k : Text) (t : Term) (fs : Fields) → fold write s (fed_fields (one_field k t fs)) ≡ fold write (fold write (fold write (fold write s (fed.u8 1)) (fed.str k)) (fed_term t)) (fed_fields fs)
  unfolding fed_term fed_terms fed_fields
  fed-one_field k t fs = two_fed 1 (fed.str k) (fed_term t) (fed_fields fs)

-- one step of a walk over a list of expressions: xs is the list, v the slice that the loop goes over
module _ {S : Type 0} (write : S → List ℕ → S) (s : S) (xs v : List Expr) (i : ℕ) (whole : v ≡ xs) where
  pub fed_step : (x : Expr) → i < length v → x ≡ get_or v i x → fold write s (fed_terms (terms_view (drop i xs))) ≡ fold write (fold write (fold write s (fed.u8 1)) (fed_term (view x))) (fed_terms (terms_view (drop (i + 1) xs)))
  fed_step x h e =
      subst (λ u. fold write s (fed_terms (terms_view (drop i u))) ≡ fold write (fold write (fold write s (fed.u8 1)) (fed_term (view x))) (fed_terms (terms_view (drop (i + 1) u)))) whole
      (ap (λ u. fold write s (fed_terms (terms_view u))) (drop_more v i x h) ∙ ap (λ y. fold write s (fed_terms (terms_view (y ∷ drop (i + 1) v)))) (sym e) ∙ fed-one_term write s (view x) (terms_view (drop (i + 1) v)))

  pub fed_end : length v ≤ i → fold write s (fed_terms (terms_view (drop i xs))) ≡ fold write s (fed.u8 0)
  fed_end h =
      subst (λ u. fold write s (fed_terms (terms_view (drop i u))) ≡ fold write s (fed.u8 0)) whole
      (ap (λ u. fold write s (fed_terms (terms_view u))) (drop_all i v h) ∙ fed-no_terms write s)

pub ruleset levels = (fed-literal, fed-variable, fed-slot, fed-unknown, fed-if_then_else, fed-both, fed-either, fed-unary, fed-binary, fed-call, fed-get_attribute, fed-has_attribute, fed-extended_has, fed-like, fed-is_of_type, fed-set_of, fed-record_of, fed-no_terms, fed-one_term, fed-no_fields, fed-one_field)
