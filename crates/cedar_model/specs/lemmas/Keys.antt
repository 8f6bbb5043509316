-- What follows of keys: their order is total, and values come back from them.
use Rattle.std.specs.Prelude.{◌≡◌, ℕ, ℤ, pos, negsuc, Bool, true, false, List, [], ◌∷◌}
use Rattle.std.specs.declared.cmp.Ordering.{Ordering}
use Rattle.std.specs.declared.cmp.Ordering.TheVariants.{Less, Equal, Greater}
use Rattle.std.specs.Ordering.{ordering_then, ordering_reverse, int_cmp, nat_cmp, bool_cmp, is_eq}
use Rattle.std.specs.Cmp.{IsTotalOrder, IsEquivalence}
use Rattle.std.specs.Cmp.Lexicographic.{slice_cmp}
use Rattle.std.proofs.Common.{refl, sym, ap, ◌∙◌, arith}
use Rattle.std.proofs.lemmas.Cmp.{int_cmp_total, int_ranked, eq_by_cmp_equiv}
use Rattle.std.proofs.lemmas.Bool.Decides.{nat_tests}
use Rattle.cedar_model.specs.Terms.{Text, EntityName, Literal, bool_literal, long_literal, text_literal, entity_literal}
use Rattle.cedar_model.specs.Values.{AbstractValue, plain, set_value, record_value, extension_value, AbstractValues}
use Rattle.cedar_model.specs.Values.{no_values, one_value, AbstractFields, no_values_at, one_value_at}
use Rattle.cedar_model.specs.Keys.{Key, bool_key, bool_of_key, end_key, entity_key, entity_of_key, key_cmp, literal_key}
use Rattle.cedar_model.specs.Keys.{literal_of_key, number_key, pair_key, text_key, text_of_key, value_cmp, value_eq}
use Rattle.cedar_model.specs.Keys.{value_fields_key, value_fields_of_key, value_key, value_of_key, values_key}
use Rattle.cedar_model.specs.Keys.{values_of_key}

-- ---- the order is total, and its `Equal` is equality

then_equal : (p q : Ordering) → ordering_then p q ≡ Equal → (p ≡ Equal) × (q ≡ Equal)
then_equal Less q e = absurd (cc)
then_equal Equal q e = (refl, e)
then_equal Greater q e = absurd (cc)

pub key_cmp-equal : (a b : Key) → key_cmp a b ≡ Equal → a ≡ b
key_cmp-equal end_key end_key e = refl
key_cmp-equal end_key (number_key n) e = absurd (cc)
key_cmp-equal end_key (pair_key c d) e = absurd (cc)
key_cmp-equal (number_key m) end_key e = absurd (cc)
key_cmp-equal (number_key m) (number_key n) e = ap number_key (int_ranked m n Equal (sym e))
key_cmp-equal (number_key m) (pair_key c d) e = absurd (cc)
key_cmp-equal (pair_key a b) end_key e = absurd (cc)
key_cmp-equal (pair_key a b) (number_key n) e = absurd (cc)
key_cmp-equal (pair_key a b) (pair_key c d) e =
    let h = then_equal (key_cmp a c) (key_cmp b d) e in
    λ i. pair_key (key_cmp-equal a c h.0 i) (key_cmp-equal b d h.1 i)

then_reverse : (p q r s : Ordering) → p ≡ ordering_reverse r → q ≡ ordering_reverse s
    → ordering_then p q ≡ ordering_reverse (ordering_then r s)
then_reverse p q Less s e f = cc
then_reverse p q Equal s e f = cc
then_reverse p q Greater s e f = cc

key_cmp-antisymm : (a b : Key) → key_cmp a b ≡ ordering_reverse (key_cmp b a)
key_cmp-antisymm end_key end_key = refl
key_cmp-antisymm end_key (number_key n) = refl
key_cmp-antisymm end_key (pair_key c d) = refl
key_cmp-antisymm (number_key m) end_key = refl
key_cmp-antisymm (number_key m) (number_key n) = int_cmp_total.antisymm m n
key_cmp-antisymm (number_key m) (pair_key c d) = refl
key_cmp-antisymm (pair_key a b) end_key = refl
key_cmp-antisymm (pair_key a b) (number_key n) = refl
key_cmp-antisymm (pair_key a b) (pair_key c d) =
    then_reverse (key_cmp a c) (key_cmp b d) (key_cmp c a) (key_cmp d b) (key_cmp-antisymm a c) (key_cmp-antisymm b d)

-- chains of pairs, from the answers at their parts
then_trans : (p q r p' q' r' : Ordering) → (p ≡ Less → q ≡ Less → r ≡ Less) → (p ≡ Equal → r ≡ q) → (q ≡ Equal → r ≡ p)
    → (p' ≡ Less → q' ≡ Less → r' ≡ Less) → ordering_then p p' ≡ Less → ordering_then q q' ≡ Less
    → ordering_then r r' ≡ Less
then_trans Less Less r p' q' r' t u v w e f = ap (λ x. ordering_then x r') (t refl refl)
then_trans Less Equal r p' q' r' t u v w e f = ap (λ x. ordering_then x r') (v refl)
then_trans Less Greater r p' q' r' t u v w e f = absurd (cc)
then_trans Equal Less r p' q' r' t u v w e f = ap (λ x. ordering_then x r') (u refl)
then_trans Equal Equal r p' q' r' t u v w e f = ap (λ x. ordering_then x r') (u refl) ∙ w e f
then_trans Equal Greater r p' q' r' t u v w e f = absurd (cc)
then_trans Greater q r p' q' r' t u v w e f = absurd (cc)

key_cmp-trans : (a b c : Key) → key_cmp a b ≡ Less → key_cmp b c ≡ Less → key_cmp a c ≡ Less
key_cmp-trans end_key b end_key e f = absurd (after_end b f)
  where
    after_end : (b : Key) → key_cmp b end_key ≡ Less → ⊥
    after_end end_key f = cc
    after_end (number_key n) f = cc
    after_end (pair_key c d) f = cc
key_cmp-trans end_key b (number_key n) e f = refl
key_cmp-trans end_key b (pair_key c d) e f = refl
key_cmp-trans (number_key m) b (pair_key c d) e f = refl
key_cmp-trans (number_key m) end_key end_key e f = absurd (cc)
key_cmp-trans (number_key m) end_key (number_key n) e f = absurd (cc)
key_cmp-trans (number_key m) (number_key k) end_key e f = absurd (cc)
key_cmp-trans (number_key m) (number_key k) (number_key n) e f = int_cmp_total.trans m k n e f
key_cmp-trans (number_key m) (pair_key c d) end_key e f = absurd (cc)
key_cmp-trans (number_key m) (pair_key c d) (number_key n) e f = absurd (cc)
key_cmp-trans (pair_key a a') end_key c e f = absurd (cc)
key_cmp-trans (pair_key a a') (number_key k) c e f = absurd (cc)
key_cmp-trans (pair_key a a') (pair_key b b') end_key e f = absurd (cc)
key_cmp-trans (pair_key a a') (pair_key b b') (number_key n) e f = absurd (cc)
key_cmp-trans (pair_key a a') (pair_key b b') (pair_key c c') e f =
    then_trans (key_cmp a b) (key_cmp b c) (key_cmp a c) (key_cmp a' b') (key_cmp b' c') (key_cmp a' c')
    (key_cmp-trans a b c) (λ h. ap (λ x. key_cmp x c) (key_cmp-equal a b h))
    (λ h. ap (key_cmp a) (sym (key_cmp-equal b c h))) (key_cmp-trans a' b' c') e f

pub key_cmp-total : IsTotalOrder key_cmp
key_cmp-total = record {
  antisymm = key_cmp-antisymm;
  trans = key_cmp-trans;
  congr = λ a b c e. ap (λ x. key_cmp x c) (key_cmp-equal a b e);
}

int_cmp-self : (n : ℤ) → int_cmp n n ≡ Equal
int_cmp-self (pos n) = grind (arith, nat_tests)
int_cmp-self (negsuc n) = grind (arith, nat_tests)

pub key_cmp-self : (a : Key) → key_cmp a a ≡ Equal
key_cmp-self end_key = refl
key_cmp-self (number_key n) = int_cmp-self n
key_cmp-self (pair_key a b) = ap (λ x. ordering_then x (key_cmp b b)) (key_cmp-self a) ∙ key_cmp-self b

-- ---- the value of a key

pub text_of_key-text_key : (t : Text) → text_of_key (text_key t) ≡ t
text_of_key-text_key [] = refl
text_of_key-text_key (b ∷ bs) = ap (λ t. b ∷ t) (text_of_key-text_key bs)

pub bool_of_key-bool_key : (b : Bool) → bool_of_key (bool_key b) ≡ b
bool_of_key-bool_key true = refl
bool_of_key-bool_key false = refl

pub entity_of_key-entity_key : (e : EntityName) → entity_of_key (entity_key e) ≡ e
entity_of_key-entity_key e =
    λ i. record { type_name = text_of_key-text_key e.type_name i; id = text_of_key-text_key e.id i }

pub literal_of_key-literal_key : (l : Literal) → literal_of_key (literal_key l) ≡ l
literal_of_key-literal_key (bool_literal b) = ap bool_literal (bool_of_key-bool_key b)
literal_of_key-literal_key (long_literal n) = refl
literal_of_key-literal_key (text_literal t) = ap text_literal (text_of_key-text_key t)
literal_of_key-literal_key (entity_literal e) = ap entity_literal (entity_of_key-entity_key e)

value_of_literal_key : (l : Literal) → value_of_key (literal_key l) ≡ plain l
value_of_literal_key (bool_literal b) = ap (λ x. plain (bool_literal x)) (bool_of_key-bool_key b)
value_of_literal_key (long_literal n) = refl
value_of_literal_key (text_literal t) = ap (λ x. plain (text_literal x)) (text_of_key-text_key t)
value_of_literal_key (entity_literal e) = ap (λ x. plain (entity_literal x)) (entity_of_key-entity_key e)

mutual
  pub value_of_key-value_key : (v : AbstractValue) → value_of_key (value_key v) ≡ v
  value_of_key-value_key (plain l) = value_of_literal_key l
  value_of_key-value_key (set_value vs) = ap set_value (values_of_key-values_key vs)
  value_of_key-value_key (record_value fs) = ap record_value (value_fields_of_key-value_fields_key fs)
  value_of_key-value_key (extension_value t k) =
      λ i. extension_value (text_of_key-text_key t i) (text_of_key-text_key k i)

  pub values_of_key-values_key : (vs : AbstractValues) → values_of_key (values_key vs) ≡ vs
  values_of_key-values_key no_values = refl
  values_of_key-values_key (one_value v vs) =
      λ i. one_value (value_of_key-value_key v i) (values_of_key-values_key vs i)

  pub value_fields_of_key-value_fields_key : (fs : AbstractFields) → value_fields_of_key (value_fields_key fs) ≡ fs
  value_fields_of_key-value_fields_key no_values_at = refl
  value_fields_of_key-value_fields_key (one_value_at k v fs) =
      λ i. one_value_at (text_of_key-text_key k i) (value_of_key-value_key v i)
      (value_fields_of_key-value_fields_key fs i)

-- ---- the order of values

pub value_cmp-equal : (a b : AbstractValue) → value_cmp a b ≡ Equal → a ≡ b
value_cmp-equal a b e =
    sym (value_of_key-value_key a) ∙ ap value_of_key (key_cmp-equal (value_key a) (value_key b) e)
    ∙ value_of_key-value_key b

pub value_cmp-self : (a : AbstractValue) → value_cmp a a ≡ Equal
value_cmp-self a = key_cmp-self (value_key a)

pub value_cmp-total : IsTotalOrder value_cmp
value_cmp-total = record {
  antisymm = λ a b. key_cmp-total.antisymm (value_key a) (value_key b);
  trans = λ a b c. key_cmp-total.trans (value_key a) (value_key b) (value_key c);
  congr = λ a b c. key_cmp-total.congr (value_key a) (value_key b) (value_key c);
}

pub is_eq-true : (o : Ordering) → is_eq o ≡ true → o ≡ Equal
is_eq-true Less e = absurd (cc)
is_eq-true Equal e = refl
is_eq-true Greater e = absurd (cc)

pub value_eq-true : (a b : AbstractValue) → value_eq a b ≡ true → a ≡ b
value_eq-true a b e = value_cmp-equal a b (is_eq-true (value_cmp a b) e)

pub value_eq-self : (a : AbstractValue) → value_eq a a ≡ true
value_eq-self a = ap is_eq (value_cmp-self a)

pub value_eq-equivalence : IsEquivalence value_eq
value_eq-equivalence = eq_by_cmp_equiv value_cmp-total

-- ---- the order at each kind of value

int_cmp-pos : (m n : ℕ) → int_cmp (pos m) (pos n) ≡ nat_cmp m n
int_cmp-pos m n = grind (arith, nat_tests)

pub key_cmp-text_key : (a b : Text) → key_cmp (text_key a) (text_key b) ≡ slice_cmp nat_cmp a b
key_cmp-text_key [] [] = refl
key_cmp-text_key [] (y ∷ ys) = refl
key_cmp-text_key (x ∷ xs) [] = refl
key_cmp-text_key (x ∷ xs) (y ∷ ys) = λ i. ordering_then (int_cmp-pos x y i) (key_cmp-text_key xs ys i)

pub value_cmp-text : (a b : Text) → value_cmp (plain (text_literal a)) (plain (text_literal b)) ≡ slice_cmp nat_cmp a b
value_cmp-text a b = key_cmp-text_key a b

pub value_cmp-long : (m n : ℤ) → value_cmp (plain (long_literal m)) (plain (long_literal n)) ≡ int_cmp m n
value_cmp-long m n = refl

pub value_cmp-bool : (a b : Bool) → value_cmp (plain (bool_literal a)) (plain (bool_literal b)) ≡ bool_cmp a b
value_cmp-bool false false = refl
value_cmp-bool false true = refl
value_cmp-bool true false = refl
value_cmp-bool true true = refl

pub value_cmp-entity : (a b : EntityName)
    → value_cmp (plain (entity_literal a)) (plain (entity_literal b))
    ≡ ordering_then (slice_cmp nat_cmp a.type_name b.type_name) (slice_cmp nat_cmp a.id b.id)
value_cmp-entity a b = λ i. ordering_then (key_cmp-text_key a.type_name b.type_name i) (key_cmp-text_key a.id b.id i)

pub value_cmp-extension : (s t : Text) (j k : List ℕ)
    → value_cmp (extension_value s j) (extension_value t k)
    ≡ ordering_then (slice_cmp nat_cmp s t) (slice_cmp nat_cmp j k)
value_cmp-extension s t j k = λ i. ordering_then (key_cmp-text_key s t i) (key_cmp-text_key j k i)
