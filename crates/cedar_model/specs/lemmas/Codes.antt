-- How a ghost value of the model's data is stored: each type by its key, and a key as a tree of numbers. No law of
-- Cedar stands here.
use Rattle.std.specs.Prelude.{◌≡◌, ℕ, pos, negsuc, cond, ◌==◌, List, [], ◌∷◌, Option, Some, None}
use Rattle.std.proofs.Common.{refl, ap}
use Rattle.std.specs.Coded.{Coded, code_by}
use base.Stored.{Gv, gnil, gnum, gcons}
use denote.Struct.Codes.{itself}
use Rattle.cedar_model.specs.Terms.{Text, EntityName, Literal, Variable, principal, action, resource, context, Slot}
use Rattle.cedar_model.specs.Terms.{principal_slot, resource_slot, ValueType, bool_type, long_type, string_type}
use Rattle.cedar_model.specs.Terms.{set_type, record_type, entity_type, extension_type, UnaryOperator, not_operator}
use Rattle.cedar_model.specs.Terms.{neg_operator, is_empty_operator, BinaryOperator, eq_operator, less_operator}
use Rattle.cedar_model.specs.Terms.{less_eq_operator, add_operator, sub_operator, mul_operator, in_operator}
use Rattle.cedar_model.specs.Terms.{contains_operator, contains_all_operator, contains_any_operator, get_tag_operator}
use Rattle.cedar_model.specs.Terms.{has_tag_operator, PatternPart, character, wildcard, Term, literal, variable, slot}
use Rattle.cedar_model.specs.Terms.{unknown, if_then_else, both, either, unary, binary, call, get_attribute}
use Rattle.cedar_model.specs.Terms.{has_attribute, extended_has, like, is_of_type, set_of, record_of, Terms, no_terms}
use Rattle.cedar_model.specs.Terms.{one_term, Fields, no_fields, one_field}
use Rattle.cedar_model.specs.Values.{AbstractValue, AbstractValues, AbstractFields, Represented, plain_represented}
use Rattle.cedar_model.specs.Values.{set_represented, record_represented, extension_represented, RepresentedValues}
use Rattle.cedar_model.specs.Values.{no_represented, one_represented, RepresentedFields, no_represented_at}
use Rattle.cedar_model.specs.Values.{one_represented_at}
use Rattle.cedar_model.specs.Keys.{Key, end_key, number_key, pair_key, text_key, entity_key, literal_key, value_key}
use Rattle.cedar_model.specs.Keys.{values_key, value_fields_key, number_of_key, text_of_key, first_of_key}
use Rattle.cedar_model.specs.Keys.{second_of_key, entity_of_key, literal_of_key, value_of_key, values_of_key}
use Rattle.cedar_model.specs.Keys.{value_fields_of_key}
use Rattle.cedar_model.specs.lemmas.Keys.{text_of_key-text_key, entity_of_key-entity_key, literal_of_key-literal_key}
use Rattle.cedar_model.specs.lemmas.Keys.{value_of_key-value_key, values_of_key-values_key}
use Rattle.cedar_model.specs.lemmas.Keys.{value_fields_of_key-value_fields_key}

-- ---- keys

abbrev pub tree_of_key : Key → Gv
tree_of_key end_key = gnil
tree_of_key (number_key (pos n)) = gnum n
tree_of_key (number_key (negsuc n)) = gcons gnil (gnum n)
tree_of_key (pair_key a b) = gcons (gnum 0) (gcons (tree_of_key a) (tree_of_key b))

abbrev pub key_of_tree : Gv → Key
key_of_tree gnil = end_key
key_of_tree (gnum n) = number_key (pos n)
key_of_tree (gcons gnil gnil) = end_key
key_of_tree (gcons gnil (gnum n)) = number_key (negsuc n)
key_of_tree (gcons gnil (gcons a b)) = end_key
key_of_tree (gcons (gnum m) gnil) = end_key
key_of_tree (gcons (gnum m) (gnum n)) = end_key
key_of_tree (gcons (gnum m) (gcons a b)) = pair_key (key_of_tree a) (key_of_tree b)
key_of_tree (gcons (gcons a b) c) = end_key

pub key_of_tree-tree_of_key : (k : Key) → key_of_tree (tree_of_key k) ≡ k
key_of_tree-tree_of_key end_key = refl
key_of_tree-tree_of_key (number_key (pos n)) = refl
key_of_tree-tree_of_key (number_key (negsuc n)) = refl
key_of_tree-tree_of_key (pair_key a b) = λ i. pair_key (key_of_tree-tree_of_key a i) (key_of_tree-tree_of_key b i)

abbrev pub key_code : Coded Key
key_code = code_by Gv itself tree_of_key key_of_tree key_of_tree-tree_of_key

abbrev pub text_code : Coded Text
text_code = code_by Key key_code text_key text_of_key text_of_key-text_key

abbrev pub entity_name_code : Coded EntityName
entity_name_code = code_by Key key_code entity_key entity_of_key entity_of_key-entity_key

abbrev pub literal_code : Coded Literal
literal_code = code_by Key key_code literal_key literal_of_key literal_of_key-literal_key

abbrev pub abstract_value_code : Coded AbstractValue
abstract_value_code = code_by Key key_code value_key value_of_key value_of_key-value_key

abbrev pub abstract_values_code : Coded AbstractValues
abstract_values_code = code_by Key key_code values_key values_of_key values_of_key-values_key

abbrev pub abstract_fields_code : Coded AbstractFields
abstract_fields_code =
    code_by Key key_code value_fields_key value_fields_of_key value_fields_of_key-value_fields_key

-- ---- types

abbrev pub type_key : ValueType → Key
type_key bool_type = pair_key (number_key (pos 0)) end_key
type_key long_type = pair_key (number_key (pos 1)) end_key
type_key string_type = pair_key (number_key (pos 2)) end_key
type_key set_type = pair_key (number_key (pos 3)) end_key
type_key record_type = pair_key (number_key (pos 4)) end_key
type_key (entity_type t) = pair_key (number_key (pos 5)) (text_key t)
type_key (extension_type t) = pair_key (number_key (pos 6)) (text_key t)

abbrev pub type_of_parts : ℕ → Text → ValueType
type_of_parts n t =
    cond (n == 0) bool_type (cond (n == 1) long_type (cond (n == 2) string_type
    (cond (n == 3) set_type (cond (n == 4) record_type (cond (n == 5) (entity_type t) (extension_type t))))))

abbrev pub type_of_key : Key → ValueType
type_of_key k = type_of_parts (number_of_key (first_of_key k)) (text_of_key (second_of_key k))

pub type_of_key-type_key : (t : ValueType) → type_of_key (type_key t) ≡ t
type_of_key-type_key bool_type = refl
type_of_key-type_key long_type = refl
type_of_key-type_key string_type = refl
type_of_key-type_key set_type = refl
type_of_key-type_key record_type = refl
type_of_key-type_key (entity_type t) = ap entity_type (text_of_key-text_key t)
type_of_key-type_key (extension_type t) = ap extension_type (text_of_key-text_key t)

abbrev pub value_type_code : Coded ValueType
value_type_code = code_by Key key_code type_key type_of_key type_of_key-type_key

abbrev pub annotation_key : Option ValueType → Key
annotation_key None = end_key
annotation_key (Some t) = pair_key (type_key t) end_key

abbrev pub annotation_of_key : Key → Option ValueType
annotation_of_key end_key = None
annotation_of_key (number_key n) = None
annotation_of_key (pair_key a b) = Some (type_of_key a)

pub annotation_of_key-annotation_key : (t : Option ValueType) → annotation_of_key (annotation_key t) ≡ t
annotation_of_key-annotation_key None = refl
annotation_of_key-annotation_key (Some t) = ap Some (type_of_key-type_key t)

-- ---- variables, slots, operators, patterns

abbrev pub variable_number : Variable → ℕ
variable_number principal = 0
variable_number action = 1
variable_number resource = 2
variable_number context = 3

abbrev pub variable_of_number : ℕ → Variable
variable_of_number n = cond (n == 0) principal (cond (n == 1) action (cond (n == 2) resource context))

pub variable_of_number-variable_number : (v : Variable) → variable_of_number (variable_number v) ≡ v
variable_of_number-variable_number principal = refl
variable_of_number-variable_number action = refl
variable_of_number-variable_number resource = refl
variable_of_number-variable_number context = refl

abbrev pub slot_number : Slot → ℕ
slot_number principal_slot = 0
slot_number resource_slot = 1

abbrev pub slot_of_number : ℕ → Slot
slot_of_number n = cond (n == 0) principal_slot resource_slot

pub slot_of_number-slot_number : (s : Slot) → slot_of_number (slot_number s) ≡ s
slot_of_number-slot_number principal_slot = refl
slot_of_number-slot_number resource_slot = refl

abbrev pub unary_number : UnaryOperator → ℕ
unary_number not_operator = 0
unary_number neg_operator = 1
unary_number is_empty_operator = 2

abbrev pub unary_of_number : ℕ → UnaryOperator
unary_of_number n = cond (n == 0) not_operator (cond (n == 1) neg_operator is_empty_operator)

pub unary_of_number-unary_number : (o : UnaryOperator) → unary_of_number (unary_number o) ≡ o
unary_of_number-unary_number not_operator = refl
unary_of_number-unary_number neg_operator = refl
unary_of_number-unary_number is_empty_operator = refl

abbrev pub binary_number : BinaryOperator → ℕ
binary_number eq_operator = 0
binary_number less_operator = 1
binary_number less_eq_operator = 2
binary_number add_operator = 3
binary_number sub_operator = 4
binary_number mul_operator = 5
binary_number in_operator = 6
binary_number contains_operator = 7
binary_number contains_all_operator = 8
binary_number contains_any_operator = 9
binary_number get_tag_operator = 10
binary_number has_tag_operator = 11

abbrev pub binary_of_number : ℕ → BinaryOperator
binary_of_number n =
    cond (n == 0) eq_operator (cond (n == 1) less_operator (cond (n == 2) less_eq_operator
    (cond (n == 3) add_operator (cond (n == 4) sub_operator (cond (n == 5) mul_operator
    (cond (n == 6) in_operator (cond (n == 7) contains_operator (cond (n == 8) contains_all_operator
    (cond (n == 9) contains_any_operator (cond (n == 10) get_tag_operator has_tag_operator))))))))))

pub binary_of_number-binary_number : (o : BinaryOperator) → binary_of_number (binary_number o) ≡ o
binary_of_number-binary_number eq_operator = refl
binary_of_number-binary_number less_operator = refl
binary_of_number-binary_number less_eq_operator = refl
binary_of_number-binary_number add_operator = refl
binary_of_number-binary_number sub_operator = refl
binary_of_number-binary_number mul_operator = refl
binary_of_number-binary_number in_operator = refl
binary_of_number-binary_number contains_operator = refl
binary_of_number-binary_number contains_all_operator = refl
binary_of_number-binary_number contains_any_operator = refl
binary_of_number-binary_number get_tag_operator = refl
binary_of_number-binary_number has_tag_operator = refl

abbrev pub variable_code : Coded Variable
variable_code =
    code_by Key key_code (λ v. number_key (pos (variable_number v)))
    (λ k. variable_of_number (number_of_key k)) variable_of_number-variable_number

abbrev pub slot_code : Coded Slot
slot_code =
    code_by Key key_code (λ s. number_key (pos (slot_number s)))
    (λ k. slot_of_number (number_of_key k)) slot_of_number-slot_number

abbrev pub unary_operator_code : Coded UnaryOperator
unary_operator_code =
    code_by Key key_code (λ o. number_key (pos (unary_number o)))
    (λ k. unary_of_number (number_of_key k)) unary_of_number-unary_number

abbrev pub binary_operator_code : Coded BinaryOperator
binary_operator_code =
    code_by Key key_code (λ o. number_key (pos (binary_number o)))
    (λ k. binary_of_number (number_of_key k)) binary_of_number-binary_number

abbrev pub pattern_key : List PatternPart → Key
pattern_key [] = end_key
pattern_key (character c ∷ ps) = pair_key (number_key (pos c)) (pattern_key ps)
pattern_key (wildcard ∷ ps) = pair_key end_key (pattern_key ps)

abbrev pub pattern_of_key : Key → List PatternPart
pattern_of_key end_key = []
pattern_of_key (number_key n) = []
pattern_of_key (pair_key end_key b) = wildcard ∷ pattern_of_key b
pattern_of_key (pair_key (number_key n) b) = character (number_of_key (number_key n)) ∷ pattern_of_key b
pattern_of_key (pair_key (pair_key c d) b) = wildcard ∷ pattern_of_key b

pub pattern_of_key-pattern_key : (p : List PatternPart) → pattern_of_key (pattern_key p) ≡ p
pattern_of_key-pattern_key [] = refl
pattern_of_key-pattern_key (character c ∷ ps) = ap (λ qs. character c ∷ qs) (pattern_of_key-pattern_key ps)
pattern_of_key-pattern_key (wildcard ∷ ps) = ap (λ qs. wildcard ∷ qs) (pattern_of_key-pattern_key ps)

abbrev pub texts_key : List Text → Key
texts_key [] = end_key
texts_key (t ∷ ts) = pair_key (text_key t) (texts_key ts)

abbrev pub texts_of_key : Key → List Text
texts_of_key end_key = []
texts_of_key (number_key n) = []
texts_of_key (pair_key a b) = text_of_key a ∷ texts_of_key b

pub texts_of_key-texts_key : (ts : List Text) → texts_of_key (texts_key ts) ≡ ts
texts_of_key-texts_key [] = refl
texts_of_key-texts_key (t ∷ ts) = λ i. text_of_key-text_key t i ∷ texts_of_key-texts_key ts i

-- ---- terms

-- three parts under a number
abbrev pub node_key : ℕ → Key → Key → Key → Key
node_key n a b c = pair_key (number_key (pos n)) (pair_key a (pair_key b c))

abbrev mutual
  pub term_key : Term → Key
  term_key (literal l) = node_key 0 (literal_key l) end_key end_key
  term_key (variable v) = node_key 1 (number_key (pos (variable_number v))) end_key end_key
  term_key (slot s) = node_key 2 (number_key (pos (slot_number s))) end_key end_key
  term_key (unknown n t) = node_key 3 (text_key n) (annotation_key t) end_key
  term_key (if_then_else a b c) = node_key 4 (term_key a) (term_key b) (term_key c)
  term_key (both a b) = node_key 5 (term_key a) (term_key b) end_key
  term_key (either a b) = node_key 6 (term_key a) (term_key b) end_key
  term_key (unary o a) = node_key 7 (term_key a) (number_key (pos (unary_number o))) end_key
  term_key (binary o a b) = node_key 8 (term_key a) (term_key b) (number_key (pos (binary_number o)))
  term_key (call f ts) = node_key 9 (text_key f) (terms_key ts) end_key
  term_key (get_attribute a k) = node_key 10 (term_key a) (text_key k) end_key
  term_key (has_attribute a k) = node_key 11 (term_key a) (text_key k) end_key
  term_key (extended_has a k ks) = node_key 12 (term_key a) (text_key k) (texts_key ks)
  term_key (like a p) = node_key 13 (term_key a) (pattern_key p) end_key
  term_key (is_of_type a t) = node_key 14 (term_key a) (text_key t) end_key
  term_key (set_of ts) = node_key 15 end_key (terms_key ts) end_key
  term_key (record_of fs) = node_key 16 end_key (fields_key fs) end_key

  pub terms_key : Terms → Key
  terms_key no_terms = end_key
  terms_key (one_term t ts) = pair_key (term_key t) (terms_key ts)

  pub fields_key : Fields → Key
  fields_key no_fields = end_key
  fields_key (one_field k t fs) = pair_key (text_key k) (pair_key (term_key t) (fields_key fs))

abbrev pub term_of_parts : ℕ → Key → Key → Key → Term → Term → Term → Terms → Fields → Term
term_of_parts n a b c s t u ts fs =
    cond (n == 0) (literal (literal_of_key a)) (cond (n == 1) (variable (variable_of_number (number_of_key a)))
    (cond (n == 2) (slot (slot_of_number (number_of_key a)))
    (cond (n == 3) (unknown (text_of_key a) (annotation_of_key b))
    (cond (n == 4) (if_then_else s t u) (cond (n == 5) (both s t) (cond (n == 6) (either s t)
    (cond (n == 7) (unary (unary_of_number (number_of_key b)) s)
    (cond (n == 8) (binary (binary_of_number (number_of_key c)) s t) (cond (n == 9) (call (text_of_key a) ts)
    (cond (n == 10) (get_attribute s (text_of_key b)) (cond (n == 11) (has_attribute s (text_of_key b))
    (cond (n == 12) (extended_has s (text_of_key b) (texts_of_key c)) (cond (n == 13) (like s (pattern_of_key b))
    (cond (n == 14) (is_of_type s (text_of_key b)) (cond (n == 15) (set_of ts) (record_of fs))))))))))))))))

abbrev mutual
  pub term_of_key : Key → Term
  term_of_key end_key = set_of no_terms
  term_of_key (number_key n) = set_of no_terms
  term_of_key (pair_key m end_key) = set_of no_terms
  term_of_key (pair_key m (number_key n)) = set_of no_terms
  term_of_key (pair_key m (pair_key a end_key)) = set_of no_terms
  term_of_key (pair_key m (pair_key a (number_key n))) = set_of no_terms
  term_of_key (pair_key m (pair_key a (pair_key b c))) =
      term_of_parts (number_of_key m) a b c (term_of_key a) (term_of_key b) (term_of_key c) (terms_of_key b)
      (fields_of_key b)

  pub terms_of_key : Key → Terms
  terms_of_key end_key = no_terms
  terms_of_key (number_key n) = no_terms
  terms_of_key (pair_key a b) = one_term (term_of_key a) (terms_of_key b)

  pub fields_of_key : Key → Fields
  fields_of_key end_key = no_fields
  fields_of_key (number_key n) = no_fields
  fields_of_key (pair_key a end_key) = no_fields
  fields_of_key (pair_key a (number_key n)) = no_fields
  fields_of_key (pair_key a (pair_key b c)) = one_field (text_of_key a) (term_of_key b) (fields_of_key c)

mutual
  pub term_of_key-term_key : (t : Term) → term_of_key (term_key t) ≡ t
  term_of_key-term_key (literal l) = ap literal (literal_of_key-literal_key l)
  term_of_key-term_key (variable v) = ap variable (variable_of_number-variable_number v)
  term_of_key-term_key (slot s) = ap slot (slot_of_number-slot_number s)
  term_of_key-term_key (unknown n t) = λ i. unknown (text_of_key-text_key n i) (annotation_of_key-annotation_key t i)
  term_of_key-term_key (if_then_else a b c) =
      λ i. if_then_else (term_of_key-term_key a i) (term_of_key-term_key b i) (term_of_key-term_key c i)
  term_of_key-term_key (both a b) = λ i. both (term_of_key-term_key a i) (term_of_key-term_key b i)
  term_of_key-term_key (either a b) = λ i. either (term_of_key-term_key a i) (term_of_key-term_key b i)
  term_of_key-term_key (unary o a) = λ i. unary (unary_of_number-unary_number o i) (term_of_key-term_key a i)
  term_of_key-term_key (binary o a b) =
      λ i. binary (binary_of_number-binary_number o i) (term_of_key-term_key a i) (term_of_key-term_key b i)
  term_of_key-term_key (call f ts) = λ i. call (text_of_key-text_key f i) (terms_of_key-terms_key ts i)
  term_of_key-term_key (get_attribute a k) = λ i. get_attribute (term_of_key-term_key a i) (text_of_key-text_key k i)
  term_of_key-term_key (has_attribute a k) = λ i. has_attribute (term_of_key-term_key a i) (text_of_key-text_key k i)
  term_of_key-term_key (extended_has a k ks) =
      λ i. extended_has (term_of_key-term_key a i) (text_of_key-text_key k i) (texts_of_key-texts_key ks i)
  term_of_key-term_key (like a p) = λ i. like (term_of_key-term_key a i) (pattern_of_key-pattern_key p i)
  term_of_key-term_key (is_of_type a t) = λ i. is_of_type (term_of_key-term_key a i) (text_of_key-text_key t i)
  term_of_key-term_key (set_of ts) = ap set_of (terms_of_key-terms_key ts)
  term_of_key-term_key (record_of fs) = ap record_of (fields_of_key-fields_key fs)

  pub terms_of_key-terms_key : (ts : Terms) → terms_of_key (terms_key ts) ≡ ts
  terms_of_key-terms_key no_terms = refl
  terms_of_key-terms_key (one_term t ts) = λ i. one_term (term_of_key-term_key t i) (terms_of_key-terms_key ts i)

  pub fields_of_key-fields_key : (fs : Fields) → fields_of_key (fields_key fs) ≡ fs
  fields_of_key-fields_key no_fields = refl
  fields_of_key-fields_key (one_field k t fs) =
      λ i. one_field (text_of_key-text_key k i) (term_of_key-term_key t i) (fields_of_key-fields_key fs i)

abbrev pub term_code : Coded Term
term_code = code_by Key key_code term_key term_of_key term_of_key-term_key

abbrev pub terms_code : Coded Terms
terms_code = code_by Key key_code terms_key terms_of_key terms_of_key-terms_key

abbrev pub fields_code : Coded Fields
fields_code = code_by Key key_code fields_key fields_of_key fields_of_key-fields_key

-- ---- values with representations

abbrev mutual
  pub represented_key : Represented → Key
  represented_key (plain_represented l) = pair_key (number_key (pos 0)) (literal_key l)
  represented_key (set_represented vs) = pair_key (number_key (pos 1)) (represented_values_key vs)
  represented_key (record_represented fs) = pair_key (number_key (pos 2)) (represented_fields_key fs)
  represented_key (extension_represented t k f ts) =
      pair_key (number_key (pos 3)) (pair_key (pair_key (text_key t) (text_key k))
      (pair_key (text_key f) (terms_key ts)))

  pub represented_values_key : RepresentedValues → Key
  represented_values_key no_represented = end_key
  represented_values_key (one_represented v vs) = pair_key (represented_key v) (represented_values_key vs)

  pub represented_fields_key : RepresentedFields → Key
  represented_fields_key no_represented_at = end_key
  represented_fields_key (one_represented_at k v fs) =
      pair_key (text_key k) (pair_key (represented_key v) (represented_fields_key fs))

abbrev pub represented_of_parts : ℕ → Key → RepresentedValues → RepresentedFields → Represented
represented_of_parts n k vs fs =
    cond (n == 0) (plain_represented (literal_of_key k))
    (cond (n == 1) (set_represented vs) (cond (n == 2) (record_represented fs)
    (extension_represented (text_of_key (first_of_key (first_of_key k))) (text_of_key (second_of_key (first_of_key k)))
    (text_of_key (first_of_key (second_of_key k))) (terms_of_key (second_of_key (second_of_key k))))))

abbrev mutual
  pub represented_of_key : Key → Represented
  represented_of_key end_key = set_represented no_represented
  represented_of_key (number_key n) = set_represented no_represented
  represented_of_key (pair_key a b) =
      represented_of_parts (number_of_key a) b (represented_values_of_key b) (represented_fields_of_key b)

  pub represented_values_of_key : Key → RepresentedValues
  represented_values_of_key end_key = no_represented
  represented_values_of_key (number_key n) = no_represented
  represented_values_of_key (pair_key a b) = one_represented (represented_of_key a) (represented_values_of_key b)

  pub represented_fields_of_key : Key → RepresentedFields
  represented_fields_of_key end_key = no_represented_at
  represented_fields_of_key (number_key n) = no_represented_at
  represented_fields_of_key (pair_key a end_key) = no_represented_at
  represented_fields_of_key (pair_key a (number_key n)) = no_represented_at
  represented_fields_of_key (pair_key a (pair_key b c)) =
      one_represented_at (text_of_key a) (represented_of_key b) (represented_fields_of_key c)

mutual
  pub represented_of_key-represented_key : (v : Represented) → represented_of_key (represented_key v) ≡ v
  represented_of_key-represented_key (plain_represented l) = ap plain_represented (literal_of_key-literal_key l)
  represented_of_key-represented_key (set_represented vs) =
      ap set_represented (represented_values_of_key-represented_values_key vs)
  represented_of_key-represented_key (record_represented fs) =
      ap record_represented (represented_fields_of_key-represented_fields_key fs)
  represented_of_key-represented_key (extension_represented t k f ts) =
      λ i. extension_represented (text_of_key-text_key t i) (text_of_key-text_key k i) (text_of_key-text_key f i)
      (terms_of_key-terms_key ts i)

  pub represented_values_of_key-represented_values_key : (vs : RepresentedValues)
      → represented_values_of_key (represented_values_key vs) ≡ vs
  represented_values_of_key-represented_values_key no_represented = refl
  represented_values_of_key-represented_values_key (one_represented v vs) =
      λ i. one_represented (represented_of_key-represented_key v i)
      (represented_values_of_key-represented_values_key vs i)

  pub represented_fields_of_key-represented_fields_key : (fs : RepresentedFields)
      → represented_fields_of_key (represented_fields_key fs) ≡ fs
  represented_fields_of_key-represented_fields_key no_represented_at = refl
  represented_fields_of_key-represented_fields_key (one_represented_at k v fs) =
      λ i. one_represented_at (text_of_key-text_key k i) (represented_of_key-represented_key v i)
      (represented_fields_of_key-represented_fields_key fs i)

abbrev pub represented_code : Coded Represented
represented_code =
    code_by Key key_code represented_key represented_of_key represented_of_key-represented_key

abbrev pub represented_values_code : Coded RepresentedValues
represented_values_code =
    code_by Key key_code represented_values_key represented_values_of_key
    represented_values_of_key-represented_values_key

abbrev pub represented_fields_code : Coded RepresentedFields
represented_fields_code =
    code_by Key key_code represented_fields_key represented_fields_of_key
    represented_fields_of_key-represented_fields_key
