-- When expressions are equal: when they stand for one term, so a location changes nothing. When texts, entities and
-- types are equal stands in the model's `Outcomes`.
use Rattle.std.specs.Prelude.{pos, Bool, List, Option}
use Rattle.std.specs.Ordering.{is_eq}
use Rattle.cedar_model.specs.Terms.{Text, Literal, Variable, Slot, ValueType, UnaryOperator, BinaryOperator}
use Rattle.cedar_model.specs.Terms.{PatternPart, Term, Terms, Fields}
use Rattle.cedar_model.specs.Keys.{Key, number_key, key_cmp, literal_key}
use Rattle.cedar_model.specs.lemmas.Codes.{annotation_key, variable_number, slot_number, unary_number, binary_number}
use Rattle.cedar_model.specs.lemmas.Codes.{pattern_key, texts_key, term_key, terms_key, fields_key}

-- whether two keys are one
abbrev pub key_eq : Key → Key → Bool
key_eq a b = is_eq (key_cmp a b)

-- whether two lists of texts are one
unfoldable pub texts_eq : List Text → List Text → Bool
texts_eq a b = key_eq (texts_key a) (texts_key b)

-- whether two literals are one
unfoldable pub literal_eq : Literal → Literal → Bool
literal_eq a b = key_eq (literal_key a) (literal_key b)

-- whether two annotations are one
unfoldable pub annotation_eq : Option ValueType → Option ValueType → Bool
annotation_eq a b = key_eq (annotation_key a) (annotation_key b)

-- whether two variables are one
unfoldable pub variable_eq : Variable → Variable → Bool
variable_eq a b = key_eq (number_key (pos (variable_number a))) (number_key (pos (variable_number b)))

-- whether two slots are one
unfoldable pub slot_eq : Slot → Slot → Bool
slot_eq a b = key_eq (number_key (pos (slot_number a))) (number_key (pos (slot_number b)))

-- whether two operators on one value are one
unfoldable pub unary_eq : UnaryOperator → UnaryOperator → Bool
unary_eq a b = key_eq (number_key (pos (unary_number a))) (number_key (pos (unary_number b)))

-- whether two operators on two values are one
unfoldable pub binary_eq : BinaryOperator → BinaryOperator → Bool
binary_eq a b = key_eq (number_key (pos (binary_number a))) (number_key (pos (binary_number b)))

-- whether two patterns are one
unfoldable pub pattern_eq : List PatternPart → List PatternPart → Bool
pattern_eq a b = key_eq (pattern_key a) (pattern_key b)

-- whether two terms are one
unfoldable pub term_eq : Term → Term → Bool
term_eq a b = key_eq (term_key a) (term_key b)

-- whether two lists of terms are one
unfoldable pub terms_eq : Terms → Terms → Bool
terms_eq a b = key_eq (terms_key a) (terms_key b)

-- whether two lists of terms under their keys are one
unfoldable pub fields_eq : Fields → Fields → Bool
fields_eq a b = key_eq (fields_key a) (fields_key b)
