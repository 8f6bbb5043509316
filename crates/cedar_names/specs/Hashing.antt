-- What an expression feeds a hasher: a number for its kind, and then its parts in order. It follows from the term alone, so equal expressions feed the same.
use Rattle.std.specs.Prelude.{pos, List, ◌++◌, Option}
use Rattle.std.specs.Hash as fed
use Rattle.std.specs.Hash.{HashWrites}
use Rattle.cedar_model.specs.Terms.{Text, EntityName, Literal, bool_literal, long_literal, text_literal, entity_literal, ValueType, bool_type, long_type, string_type, set_type, record_type, entity_type, extension_type, PatternPart, character, wildcard, Term, literal, variable, slot, unknown, if_then_else, both, either, unary, binary, call, get_attribute, has_attribute, extended_has, like, is_of_type, set_of, record_of, Terms, no_terms, one_term, Fields, no_fields, one_field}
use Rattle.cedar_model.specs.lemmas.Codes.{variable_number, slot_number, unary_number, binary_number}

abbrev pub fed_entity : EntityName → HashWrites
fed_entity e = fed.str e.type_name ++ fed.str e.id

abbrev pub fed_literal : Literal → HashWrites
fed_literal (bool_literal b) = fed.isize (pos 0) ++ fed.bool b
fed_literal (long_literal n) = fed.isize (pos 1) ++ fed.i64 n
fed_literal (text_literal t) = fed.isize (pos 2) ++ fed.str t
fed_literal (entity_literal e) = fed.isize (pos 3) ++ fed_entity e

abbrev pub fed_type : ValueType → HashWrites
fed_type bool_type = fed.isize (pos 0)
fed_type long_type = fed.isize (pos 1)
fed_type string_type = fed.isize (pos 2)
fed_type set_type = fed.isize (pos 3)
fed_type record_type = fed.isize (pos 4)
fed_type (entity_type t) = fed.isize (pos 5) ++ fed.str t
fed_type (extension_type t) = fed.isize (pos 6) ++ fed.str t

abbrev pub fed_annotation : Option ValueType → HashWrites
fed_annotation = fed.option fed_type

abbrev pub fed_part : PatternPart → HashWrites
fed_part (character c) = fed.isize (pos 0) ++ fed.char c
fed_part wildcard = fed.isize (pos 1)

abbrev pub fed_pattern : List PatternPart → HashWrites
fed_pattern = fed.slice fed_part

abbrev pub fed_texts : List Text → HashWrites
fed_texts = fed.slice fed.str

unfoldable mutual
  pub fed_term : Term → HashWrites
  fed_term (literal l) = fed.u8 0 ++ fed_literal l
  fed_term (variable v) = fed.u8 1 ++ fed.isize (pos (variable_number v))
  fed_term (slot s) = fed.u8 2 ++ fed.isize (pos (slot_number s))
  fed_term (unknown n t) = fed.u8 3 ++ (fed.str n ++ fed_annotation t)
  fed_term (if_then_else c a b) = fed.u8 4 ++ (fed_term c ++ (fed_term a ++ fed_term b))
  fed_term (both a b) = fed.u8 5 ++ (fed_term a ++ fed_term b)
  fed_term (either a b) = fed.u8 6 ++ (fed_term a ++ fed_term b)
  fed_term (unary o a) = fed.u8 7 ++ (fed.isize (pos (unary_number o)) ++ fed_term a)
  fed_term (binary o a b) = fed.u8 8 ++ (fed.isize (pos (binary_number o)) ++ (fed_term a ++ fed_term b))
  fed_term (call f ts) = fed.u8 9 ++ (fed.str f ++ fed_terms ts)
  fed_term (get_attribute a k) = fed.u8 10 ++ (fed_term a ++ fed.str k)
  fed_term (has_attribute a k) = fed.u8 11 ++ (fed_term a ++ fed.str k)
  fed_term (extended_has a k ks) = fed.u8 12 ++ (fed_term a ++ (fed.str k ++ fed_texts ks))
  fed_term (like a p) = fed.u8 13 ++ (fed_term a ++ fed_pattern p)
  fed_term (is_of_type a t) = fed.u8 14 ++ (fed_term a ++ fed.str t)
  fed_term (set_of ts) = fed.u8 15 ++ fed_terms ts
  fed_term (record_of fs) = fed.u8 16 ++ fed_fields fs

  -- a one before each part, and a zero at the end
  pub fed_terms : Terms → HashWrites
  fed_terms no_terms = fed.u8 0
  fed_terms (one_term t ts) = fed.u8 1 ++ (fed_term t ++ fed_terms ts)

  pub fed_fields : Fields → HashWrites
  fed_fields no_fields = fed.u8 0
  fed_fields (one_field k t fs) = fed.u8 1 ++ (fed.str k ++ (fed_term t ++ fed_fields fs))
