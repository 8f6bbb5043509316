-- Which restricted expressions have a form in Cedar's JSON, from which they are read as the same.
use Rattle.std.specs.Prelude.{◌≡◌, ⊤, true, false, List, [], ◌∷◌, None, bytes_eq, codes}
use Rattle.cedar_model.specs.Outcomes.{is_long}
use Rattle.cedar_model.specs.Terms.{Text, Literal, bool_literal, long_literal, text_literal, entity_literal}
use Rattle.cedar_model.specs.Terms.{Term, literal, variable, slot, unknown, if_then_else, both, either, unary, binary, call}
use Rattle.cedar_model.specs.Terms.{get_attribute, has_attribute, extended_has, like, is_of_type, set_of, record_of}
use Rattle.cedar_model.specs.Terms.{Terms, no_terms, one_term, Fields, no_fields, one_field}
use Rattle.cedar_model.specs.Refusals.{first_repeated}
use Rattle.cedar_expressions.specs.Records.{fields_in_order}
use Rattle.cedar_json_reader.specs.Said.{is_reserved_key, keys_of_pairs}
use Rattle.cedar_json_reader.specs.Words.{is_name}

abbrev pub LiteralHasJson : Literal → Type 0
LiteralHasJson (bool_literal b) = ⊤
LiteralHasJson (long_literal n) = ⊤
LiteralHasJson (text_literal t) = ⊤
LiteralHasJson (entity_literal e) = is_name e.type_name ≡ true

-- it is restricted, types and functions have names, no function is named `unknown`, unknowns have no annotation, and no
-- key of a record is reserved
abbrev mutual
  pub HasJson : Term → Type 0
  HasJson (literal l) = LiteralHasJson l
  HasJson (variable v) = ⊥
  HasJson (slot s) = ⊥
  HasJson (unknown n t) = t ≡ None
  HasJson (if_then_else c t u) = ⊥
  HasJson (both t u) = ⊥
  HasJson (either t u) = ⊥
  HasJson (unary op t) = ⊥
  HasJson (binary op t u) = ⊥
  HasJson (call f ts) = (is_name f ≡ true) × (bytes_eq f (codes "unknown") ≡ false) × AllHaveJson ts
  HasJson (get_attribute t k) = ⊥
  HasJson (has_attribute t k) = ⊥
  HasJson (extended_has t k ks) = ⊥
  HasJson (like t p) = ⊥
  HasJson (is_of_type t n) = ⊥
  HasJson (set_of ts) = AllHaveJson ts
  HasJson (record_of fs) = FieldsHaveJson fs

  pub AllHaveJson : Terms → Type 0
  AllHaveJson no_terms = ⊤
  AllHaveJson (one_term t ts) = HasJson t × AllHaveJson ts

  pub FieldsHaveJson : Fields → Type 0
  FieldsHaveJson no_fields = ⊤
  FieldsHaveJson (one_field k t fs) = (is_reserved_key k ≡ false) × HasJson t × FieldsHaveJson fs

-- ---- what the types of expressions keep, at any depth: longs are longs, and records have each key once, in order

-- the parts with their keys
abbrev pub pairs_in : Fields → List (Text × Term)
pairs_in no_fields = []
pairs_in (one_field k t fs) = (k, t) ∷ pairs_in fs

abbrev pub AreInOrder : Fields → Type 0
AreInOrder fs = (first_repeated (keys_of_pairs (pairs_in fs)) ≡ None) × (fields_in_order (pairs_in fs) ≡ fs)

abbrev pub LiteralIsKept : Literal → Type 0
LiteralIsKept (bool_literal b) = ⊤
LiteralIsKept (long_literal n) = is_long n ≡ true
LiteralIsKept (text_literal t) = ⊤
LiteralIsKept (entity_literal e) = ⊤

abbrev mutual
  pub IsKept : Term → Type 0
  IsKept (literal l) = LiteralIsKept l
  IsKept (variable v) = ⊤
  IsKept (slot s) = ⊤
  IsKept (unknown n t) = ⊤
  IsKept (if_then_else c t u) = ⊤
  IsKept (both t u) = ⊤
  IsKept (either t u) = ⊤
  IsKept (unary op t) = ⊤
  IsKept (binary op t u) = ⊤
  IsKept (call f ts) = AreKept ts
  IsKept (get_attribute t k) = ⊤
  IsKept (has_attribute t k) = ⊤
  IsKept (extended_has t k ks) = ⊤
  IsKept (like t p) = ⊤
  IsKept (is_of_type t n) = ⊤
  IsKept (set_of ts) = AreKept ts
  IsKept (record_of fs) = AreInOrder fs × FieldsAreKept fs

  pub AreKept : Terms → Type 0
  AreKept no_terms = ⊤
  AreKept (one_term t ts) = IsKept t × AreKept ts

  pub FieldsAreKept : Fields → Type 0
  FieldsAreKept no_fields = ⊤
  FieldsAreKept (one_field k t fs) = IsKept t × FieldsAreKept fs
