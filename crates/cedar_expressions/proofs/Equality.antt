-- The tests of `Equality` on terms, level by level.
use Rattle.std.proofs.Common.{◌≡◌, ℕ, pos, Bool, true, false, ◌&&◌, List, Option, refl, ap, ◌∙◌}
use Rattle.std.specs.Ordering.{is_eq, ordering_then}
use Rattle.std.proofs.Math.Bool.{and-true}
use Rattle.cedar_model.specs.Terms.{Text, Literal, Variable, Slot, ValueType, UnaryOperator, BinaryOperator, PatternPart, Term, literal, variable, slot, unknown, if_then_else, both, either, unary, binary, call, get_attribute, has_attribute, extended_has, like, is_of_type, set_of, record_of, Terms, no_terms, one_term, Fields, no_fields, one_field}
use Rattle.cedar_model.specs.Keys.{Key, end_key, number_key, key_cmp, text_key, literal_key}
use Rattle.cedar_model.specs.lemmas.Keys.{key_cmp-self}
use Rattle.cedar_model.specs.lemmas.Codes.{node_key, term_key, terms_key, fields_key, annotation_key, texts_key, pattern_key, variable_number, slot_number, unary_number, binary_number}
use Rattle.cedar_model.specs.Outcomes.{text_eq}
use Rattle.cedar_names.specs.Equality.{key_eq, texts_eq, literal_eq, annotation_eq, variable_eq, slot_eq, unary_eq}
use Rattle.cedar_names.specs.Equality.{binary_eq, pattern_eq, term_eq, terms_eq, fields_eq}
use Rattle.cedar_names.specs.EqualityLaws.{text_eq-key}
use Rattle.cedar_names.proofs.Equality.{then_eq}

and_swap : (a b : Bool) → (a && b) ≡ (b && a)
and_swap true true = refl
and_swap true false = refl
and_swap false true = refl
and_swap false false = refl

-- three parts under one number
node_eq : (n : ℕ) (a b c d e f : Key) → key_eq (node_key n a b c) (node_key n d e f) ≡ (key_eq a d && (key_eq b e && key_eq c f))
node_eq n a b c d e f =
    ap (λ o. is_eq (ordering_then o (ordering_then (key_cmp a d) (ordering_then (key_cmp b e) (key_cmp c f))))) (key_cmp-self (number_key (pos n))) ∙ then_eq (key_cmp a d) (ordering_then (key_cmp b e) (key_cmp c f)) ∙ ap (λ x. key_eq a d && x) (then_eq (key_cmp b e) (key_cmp c f))

-- two parts, the third being the end
two_eq : (n : ℕ) (a b d e : Key) → key_eq (node_key n a b end_key) (node_key n d e end_key) ≡ (key_eq a d && key_eq b e)
two_eq n a b d e = node_eq n a b end_key d e end_key ∙ ap (λ x. key_eq a d && x) (and-true (key_eq b e))

one_eq : (n : ℕ) (a d : Key) → key_eq (node_key n a end_key end_key) (node_key n d end_key end_key) ≡ key_eq a d
one_eq n a d = two_eq n a end_key d end_key ∙ and-true (key_eq a d)

pub term_eq-literal : (a b : Literal) → term_eq (literal a) (literal b) ≡ literal_eq a b
unfolding term_eq literal_eq
term_eq-literal a b = one_eq 0 (literal_key a) (literal_key b)

pub term_eq-variable : (a b : Variable) → term_eq (variable a) (variable b) ≡ variable_eq a b
unfolding term_eq variable_eq
term_eq-variable a b = one_eq 1 (number_key (pos (variable_number a))) (number_key (pos (variable_number b)))

pub term_eq-slot : (a b : Slot) → term_eq (slot a) (slot b) ≡ slot_eq a b
unfolding term_eq slot_eq
term_eq-slot a b = one_eq 2 (number_key (pos (slot_number a))) (number_key (pos (slot_number b)))

pub term_eq-unknown : (m n : Text) (s t : Option ValueType) → term_eq (unknown m s) (unknown n t) ≡ (text_eq m n && annotation_eq s t)
unfolding term_eq annotation_eq
term_eq-unknown m n s t =
    two_eq 3 (text_key m) (annotation_key s) (text_key n) (annotation_key t)
    ∙ ap (λ x. x && annotation_eq s t) (text_eq-key m n)

pub term_eq-if : (a b c d e f : Term) → term_eq (if_then_else a b c) (if_then_else d e f) ≡ (term_eq a d && (term_eq b e && term_eq c f))
unfolding term_eq
term_eq-if a b c d e f = node_eq 4 (term_key a) (term_key b) (term_key c) (term_key d) (term_key e) (term_key f)

pub term_eq-both : (a b c d : Term) → term_eq (both a b) (both c d) ≡ (term_eq a c && term_eq b d)
unfolding term_eq
term_eq-both a b c d = two_eq 5 (term_key a) (term_key b) (term_key c) (term_key d)

pub term_eq-either : (a b c d : Term) → term_eq (either a b) (either c d) ≡ (term_eq a c && term_eq b d)
unfolding term_eq
term_eq-either a b c d = two_eq 6 (term_key a) (term_key b) (term_key c) (term_key d)

pub term_eq-unary : (o p : UnaryOperator) (a b : Term) → term_eq (unary o a) (unary p b) ≡ (unary_eq o p && term_eq a b)
unfolding term_eq unary_eq
term_eq-unary o p a b =
    let m = number_key (pos (unary_number o)) in
    let n = number_key (pos (unary_number p)) in
    two_eq 7 (term_key a) m (term_key b) n ∙ and_swap (key_eq (term_key a) (term_key b)) (key_eq m n)

pub term_eq-binary : (o p : BinaryOperator) (a b c d : Term) → term_eq (binary o a b) (binary p c d) ≡ (binary_eq o p && (term_eq a c && term_eq b d))
unfolding term_eq binary_eq
term_eq-binary o p a b c d =
    let m = number_key (pos (binary_number o)) in
    let n = number_key (pos (binary_number p)) in
    node_eq 8 (term_key a) (term_key b) m (term_key c) (term_key d) n ∙ rotated (key_eq (term_key a) (term_key c)) (key_eq (term_key b) (term_key d)) (key_eq m n)
  where
    rotated : (x y z : Bool) → (x && (y && z)) ≡ (z && (x && y))
    rotated true y z = and_swap y z
    rotated false y true = refl
    rotated false y false = refl

pub term_eq-call : (f g : Text) (ts us : Terms) → term_eq (call f ts) (call g us) ≡ (text_eq f g && terms_eq ts us)
unfolding term_eq terms_eq
term_eq-call f g ts us =
    two_eq 9 (text_key f) (terms_key ts) (text_key g) (terms_key us)
    ∙ ap (λ x. x && terms_eq ts us) (text_eq-key f g)

pub term_eq-get_attribute : (a b : Term) (k l : Text) → term_eq (get_attribute a k) (get_attribute b l) ≡ (text_eq k l && term_eq a b)
unfolding term_eq
term_eq-get_attribute a b k l =
    two_eq 10 (term_key a) (text_key k) (term_key b) (text_key l)
    ∙ and_swap (key_eq (term_key a) (term_key b)) (key_eq (text_key k) (text_key l))
    ∙ ap (λ x. x && term_eq a b) (text_eq-key k l)

pub term_eq-has_attribute : (a b : Term) (k l : Text) → term_eq (has_attribute a k) (has_attribute b l) ≡ (text_eq k l && term_eq a b)
unfolding term_eq
term_eq-has_attribute a b k l =
    two_eq 11 (term_key a) (text_key k) (term_key b) (text_key l)
    ∙ and_swap (key_eq (term_key a) (term_key b)) (key_eq (text_key k) (text_key l))
    ∙ ap (λ x. x && term_eq a b) (text_eq-key k l)

pub term_eq-extended_has : (a b : Term) (k l : Text) (ks ls : List Text) → term_eq (extended_has a k ks) (extended_has b l ls) ≡ ((text_eq k l && texts_eq ks ls) && term_eq a b)
unfolding term_eq texts_eq
term_eq-extended_has a b k l ks ls =
    node_eq 12 (term_key a) (text_key k) (texts_key ks) (term_key b) (text_key l) (texts_key ls)
    ∙ and_swap (key_eq (term_key a) (term_key b))
    (key_eq (text_key k) (text_key l) && key_eq (texts_key ks) (texts_key ls))
    ∙ ap (λ x. (x && texts_eq ks ls) && term_eq a b) (text_eq-key k l)

pub term_eq-like : (a b : Term) (p q : List PatternPart) → term_eq (like a p) (like b q) ≡ (pattern_eq p q && term_eq a b)
unfolding term_eq pattern_eq
term_eq-like a b p q =
    two_eq 13 (term_key a) (pattern_key p) (term_key b) (pattern_key q) ∙ and_swap (key_eq (term_key a) (term_key b)) (key_eq (pattern_key p) (pattern_key q))

pub term_eq-is_of_type : (a b : Term) (s t : Text) → term_eq (is_of_type a s) (is_of_type b t) ≡ (text_eq s t && term_eq a b)
unfolding term_eq
term_eq-is_of_type a b s t =
    two_eq 14 (term_key a) (text_key s) (term_key b) (text_key t)
    ∙ and_swap (key_eq (term_key a) (term_key b)) (key_eq (text_key s) (text_key t))
    ∙ ap (λ x. x && term_eq a b) (text_eq-key s t)

pub term_eq-set_of : (ts us : Terms) → term_eq (set_of ts) (set_of us) ≡ terms_eq ts us
unfolding term_eq terms_eq
term_eq-set_of ts us = two_eq 15 end_key (terms_key ts) end_key (terms_key us)

pub term_eq-record_of : (fs gs : Fields) → term_eq (record_of fs) (record_of gs) ≡ fields_eq fs gs
unfolding term_eq fields_eq
term_eq-record_of fs gs = two_eq 16 end_key (fields_key fs) end_key (fields_key gs)

pub terms_eq-none : terms_eq no_terms no_terms ≡ true
unfolding terms_eq
terms_eq-none = refl

pub terms_eq-more : (t : Term) (ts : Terms) → terms_eq no_terms (one_term t ts) ≡ false
unfolding terms_eq
terms_eq-more t ts = refl

pub terms_eq-less : (t : Term) (ts : Terms) → terms_eq (one_term t ts) no_terms ≡ false
unfolding terms_eq
terms_eq-less t ts = refl

pub terms_eq-one : (a b : Term) (ts us : Terms) → terms_eq (one_term a ts) (one_term b us) ≡ (term_eq a b && terms_eq ts us)
unfolding term_eq terms_eq
terms_eq-one a b ts us = then_eq (key_cmp (term_key a) (term_key b)) (key_cmp (terms_key ts) (terms_key us))

pub fields_eq-none : fields_eq no_fields no_fields ≡ true
unfolding fields_eq
fields_eq-none = refl

pub fields_eq-more : (k : Text) (t : Term) (fs : Fields) → fields_eq no_fields (one_field k t fs) ≡ false
unfolding fields_eq
fields_eq-more k t fs = refl

pub fields_eq-less : (k : Text) (t : Term) (fs : Fields) → fields_eq (one_field k t fs) no_fields ≡ false
unfolding fields_eq
fields_eq-less k t fs = refl

pub fields_eq-one : (k l : Text) (a b : Term) (fs gs : Fields) → fields_eq (one_field k a fs) (one_field l b gs) ≡ (text_eq k l && (term_eq a b && fields_eq fs gs))
unfolding term_eq fields_eq
fields_eq-one k l a b fs gs =
    let parts = key_cmp (term_key a) (term_key b) in
    let rest = key_cmp (fields_key fs) (fields_key gs) in
    then_eq (key_cmp (text_key k) (text_key l)) (ordering_then parts rest)
    ∙ (λ i. text_eq-key k l i && then_eq parts rest i)

pub ruleset levels = (term_eq-literal, term_eq-variable, term_eq-slot, term_eq-unknown, term_eq-if, term_eq-both, term_eq-either, term_eq-unary, term_eq-binary, term_eq-call, term_eq-get_attribute, term_eq-has_attribute, term_eq-extended_has, term_eq-like, term_eq-is_of_type, term_eq-set_of, term_eq-record_of, terms_eq-none, terms_eq-more, terms_eq-less, terms_eq-one, fields_eq-none, fields_eq-more, fields_eq-less, fields_eq-one)
