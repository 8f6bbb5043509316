-- The tests of `Equality`, and those of the model on texts, entities and types, are true exactly where both sides are
-- the same.
use Rattle.std.specs.Prelude.{◌≡◌, pos, Bool, true, ◌&&◌, List, Option}
use Rattle.std.specs.Bool.{Decides}
use Rattle.std.specs.Cmp.{IsEquivalence, on_equiv}
use Rattle.std.specs.Cmp.Lexicographic.{bytes_decides, texts_ties}
use Rattle.std.specs.declared.cmp.Ordering.{Ordering}
use Rattle.std.specs.declared.cmp.Ordering.TheVariants.{Less, Equal, Greater}
use Rattle.std.specs.Ordering.{is_eq, ordering_then}
use Rattle.std.proofs.Common.{refl, sym, ap, subst, ◌∙◌}
use Rattle.std.proofs.lemmas.Cmp.{eq_by_cmp_equiv}
use Rattle.cedar_model.specs.Terms.{Text, EntityName, Literal, Variable, Slot, ValueType, bool_type, long_type}
use Rattle.cedar_model.specs.Terms.{string_type, set_type, record_type, entity_type, extension_type, UnaryOperator}
use Rattle.cedar_model.specs.Terms.{BinaryOperator, PatternPart, Term, Terms, Fields}
use Rattle.cedar_model.specs.Outcomes.{text_eq, entity_eq, type_eq}
use Rattle.cedar_model.specs.Keys.{Key, number_key, text_key, entity_key, literal_key, number_of_key, entity_of_key}
use Rattle.cedar_model.specs.Keys.{literal_of_key, key_cmp}
use Rattle.cedar_model.specs.lemmas.Keys.{entity_of_key-entity_key, literal_of_key-literal_key, key_cmp-equal, is_eq-true}
use Rattle.cedar_model.specs.lemmas.Keys.{key_cmp-self, key_cmp-total, key_cmp-text_key}
use Rattle.cedar_model.specs.lemmas.Codes.{type_key, type_of_key, type_of_key-type_key, annotation_key, annotation_of_key, annotation_of_key-annotation_key, variable_number, variable_of_number, variable_of_number-variable_number, slot_number, slot_of_number, slot_of_number-slot_number, unary_number, unary_of_number, unary_of_number-unary_number, binary_number, binary_of_number, binary_of_number-binary_number, pattern_key, pattern_of_key, pattern_of_key-pattern_key, term_key, term_of_key, term_of_key-term_key, terms_key, terms_of_key, terms_of_key-terms_key, fields_key, fields_of_key, fields_of_key-fields_key}
use Rattle.cedar_names.specs.Equality.{key_eq, literal_eq, annotation_eq, variable_eq, slot_eq, unary_eq, binary_eq}
use Rattle.cedar_names.specs.Equality.{pattern_eq, term_eq, terms_eq, fields_eq}

-- the model's tests of texts, entities and types are the tests by their keys
pub text_eq-key : (a b : Text) → key_eq (text_key a) (text_key b) ≡ text_eq a b
text_eq-key a b = ap is_eq (key_cmp-text_key a b) ∙ sym (texts_ties a b)

-- the first of two orders, and where it ties the second, ties where both tie
pub then_eq : (p q : Ordering) → is_eq (ordering_then p q) ≡ (is_eq p && is_eq q)
then_eq Less q = refl
then_eq Equal q = refl
then_eq Greater q = refl

pub entity_eq-key : (a b : EntityName) → key_eq (entity_key a) (entity_key b) ≡ entity_eq a b
entity_eq-key a b =
    then_eq (key_cmp (text_key a.type_name) (text_key b.type_name)) (key_cmp (text_key a.id) (text_key b.id))
    ∙ (λ i. text_eq-key a.type_name b.type_name i && text_eq-key a.id b.id i)

pub type_eq-key : (a b : ValueType) → key_eq (type_key a) (type_key b) ≡ type_eq a b
unfolding type_eq
type_eq-key bool_type bool_type = refl
type_eq-key bool_type _ = refl
type_eq-key long_type long_type = refl
type_eq-key long_type _ = refl
type_eq-key string_type string_type = refl
type_eq-key string_type _ = refl
type_eq-key set_type set_type = refl
type_eq-key set_type _ = refl
type_eq-key record_type record_type = refl
type_eq-key record_type _ = refl
type_eq-key (entity_type s) (entity_type t) = text_eq-key s t
type_eq-key (entity_type s) _ = refl
type_eq-key (extension_type s) (extension_type t) = text_eq-key s t
type_eq-key (extension_type s) _ = refl

-- a test by a key that loses nothing decides equality
key_decides : {A : Type 0} (key : A → Key) (back : Key → A) → ((a : A) → back (key a) ≡ a) → (a b : A) → Decides (key_eq (key a) (key b)) (a ≡ b)
key_decides key back same a b =
    (λ e. sym (same a) ∙ ap back (key_cmp-equal (key a) (key b) (is_eq-true (key_cmp (key a) (key b)) e)) ∙ same b, λ e. subst (λ x. key_eq (key a) (key x) ≡ true) e (ap is_eq (key_cmp-self (key a))))

-- a test that answers the same decides the same
decides_too : {A : Type 0} {a b : A} {x y : Bool} → x ≡ y → Decides x (a ≡ b) → Decides y (a ≡ b)
decides_too same d = (λ e. d.0 (same ∙ e), λ e. sym same ∙ d.1 e)

pub text_eq-decides : (a b : Text) → Decides (text_eq a b) (a ≡ b)
text_eq-decides a b = bytes_decides a b

pub entity_eq-decides : (a b : EntityName) → Decides (entity_eq a b) (a ≡ b)
entity_eq-decides a b =
    decides_too (entity_eq-key a b) (key_decides entity_key entity_of_key entity_of_key-entity_key a b)

pub literal_eq-decides : (a b : Literal) → Decides (literal_eq a b) (a ≡ b)
unfolding literal_eq
literal_eq-decides = key_decides literal_key literal_of_key literal_of_key-literal_key

pub type_eq-decides : (a b : ValueType) → Decides (type_eq a b) (a ≡ b)
type_eq-decides a b = decides_too (type_eq-key a b) (key_decides type_key type_of_key type_of_key-type_key a b)

pub annotation_eq-decides : (a b : Option ValueType) → Decides (annotation_eq a b) (a ≡ b)
unfolding annotation_eq
annotation_eq-decides = key_decides annotation_key annotation_of_key annotation_of_key-annotation_key

pub variable_eq-decides : (a b : Variable) → Decides (variable_eq a b) (a ≡ b)
unfolding variable_eq
variable_eq-decides =
    key_decides (λ v. number_key (pos (variable_number v))) (λ k. variable_of_number (number_of_key k)) variable_of_number-variable_number

pub slot_eq-decides : (a b : Slot) → Decides (slot_eq a b) (a ≡ b)
unfolding slot_eq
slot_eq-decides =
    key_decides (λ s. number_key (pos (slot_number s))) (λ k. slot_of_number (number_of_key k)) slot_of_number-slot_number

pub unary_eq-decides : (a b : UnaryOperator) → Decides (unary_eq a b) (a ≡ b)
unfolding unary_eq
unary_eq-decides =
    key_decides (λ o. number_key (pos (unary_number o))) (λ k. unary_of_number (number_of_key k)) unary_of_number-unary_number

pub binary_eq-decides : (a b : BinaryOperator) → Decides (binary_eq a b) (a ≡ b)
unfolding binary_eq
binary_eq-decides =
    key_decides (λ o. number_key (pos (binary_number o))) (λ k. binary_of_number (number_of_key k)) binary_of_number-binary_number

pub pattern_eq-decides : (a b : List PatternPart) → Decides (pattern_eq a b) (a ≡ b)
unfolding pattern_eq
pattern_eq-decides = key_decides pattern_key pattern_of_key pattern_of_key-pattern_key

pub term_eq-decides : (a b : Term) → Decides (term_eq a b) (a ≡ b)
unfolding term_eq
term_eq-decides = key_decides term_key term_of_key term_of_key-term_key

pub terms_eq-decides : (a b : Terms) → Decides (terms_eq a b) (a ≡ b)
unfolding terms_eq
terms_eq-decides = key_decides terms_key terms_of_key terms_of_key-terms_key

pub fields_eq-decides : (a b : Fields) → Decides (fields_eq a b) (a ≡ b)
unfolding fields_eq
fields_eq-decides = key_decides fields_key fields_of_key fields_of_key-fields_key

pub term_eq-equivalence : IsEquivalence term_eq
unfolding term_eq
term_eq-equivalence = on_equiv term_key (eq_by_cmp_equiv key_cmp-total)
