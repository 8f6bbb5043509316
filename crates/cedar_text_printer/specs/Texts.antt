-- Expressions in Cedar's syntax, in bytes of UTF-8. A part stands in brackets where its level is none that its place takes.
use Rattle.std.specs.Prelude.{ℕ, Bool, true, false, [], ◌∷◌, ◌++◌, Option, Some, None, if◌then◌else◌, codes}
use Rattle.cedar_model.specs.Terms.{Text, EntityName, Slot, BinaryOperator, Term, literal, variable, slot, unknown, if_then_else, both, either, unary, binary, call, get_attribute, has_attribute, extended_has, like, is_of_type, set_of, record_of, Terms, no_terms, one_term, Fields, no_fields, one_field}
use Rattle.cedar_model.specs.World.{Slots}
use Rattle.cedar_names.specs.Texts.{slot_text, variable_text, before_part, after_part, between_parts, is_infix, separator, type_test_text}
use Rattle.cedar_text_printer.specs.Levels.{fits, lowest_level, left_level, right_level}
use Rattle.cedar_text_printer.specs.Methods.{is_method}
use Rattle.cedar_text_printer.specs.Names.{literal_text, entity_text, unknown_text, key_text, attribute_text, has_text, path_text, like_text}

-- a text, in brackets where it does not stand without
abbrev pub bracketed : Bool → Text → Text
bracketed stands t = if stands then t else 40 ∷ (t ++ 41 ∷ [])

-- a slot: the entity that it is linked to, or the slot itself
abbrev pub linked_text : Slot → Option EntityName → Text
linked_text s None = slot_text s
linked_text s (Some e) = entity_text e

-- what stands behind the second part of an operator
abbrev pub after_parts : BinaryOperator → Text
after_parts op = if is_infix op then [] else 41 ∷ []

-- an expression, with these entities for its slots
abbrev mutual
  pub written : Slots → Term → Text
  written s (literal l) = literal_text l
  written s (variable v) = variable_text v
  written s (slot x) = linked_text x (s x)
  written s (unknown n t) = unknown_text n
  written s (if_then_else c a b) =
      codes "if " ++ (written s c ++ (codes " then " ++ (written s a ++ (codes " else " ++ written s b))))
  written s (both a b) =
      bracketed (fits 0 6 a) (written s a) ++ (codes " && " ++ bracketed (fits 0 5 b) (written s b))
  written s (either a b) =
      bracketed (fits 0 7 a) (written s a) ++ (codes " || " ++ bracketed (fits 0 6 b) (written s b))
  written s (unary op a) =
      before_part op ++ (bracketed (fits (lowest_level op) 1 a) (written s a) ++ after_part op)
  written s (binary op a b) =
      (bracketed (fits 0 (left_level op) a) (written s a)
      ++ (between_parts op ++ bracketed (fits 0 (right_level op) b) (written s b))) ++ after_parts op
  written s (call f ts) =
      if is_method f then written_method s f ts else f ++ (codes "(" ++ (written_parts s true ts ++ codes ")"))
  written s (get_attribute e a) = bracketed (fits 0 1 e) (written s e) ++ attribute_text a
  written s (has_attribute e a) = bracketed (fits 0 4 e) (written s e) ++ has_text a
  written s (extended_has e a more) = bracketed (fits 0 4 e) (written s e) ++ path_text a more
  written s (like e p) = bracketed (fits 0 4 e) (written s e) ++ like_text p
  written s (is_of_type e t) = bracketed (fits 0 4 e) (written s e) ++ type_test_text t
  written s (set_of ts) = codes "[" ++ (written_parts s true ts ++ codes "]")
  written s (record_of fs) = codes "{" ++ (written_fields s true fs ++ codes "}")

  -- the call of a method on its first argument, where it has one
  pub written_method : Slots → Text → Terms → Text
  written_method s f no_terms = f ++ codes "()"
  written_method s f (one_term t ts) =
      bracketed (fits 0 1 t) (written s t) ++ (codes "." ++ (f ++ (codes "(" ++ (written_parts s true ts ++ codes ")"))))

  -- parts with `, ` between them
  pub written_parts : Slots → Bool → Terms → Text
  written_parts s first no_terms = []
  written_parts s first (one_term t ts) = separator first ++ (written s t ++ written_parts s false ts)

  -- the same of parts under their keys
  pub written_fields : Slots → Bool → Fields → Text
  written_fields s first no_fields = []
  written_fields s first (one_field k t fs) =
      separator first ++ (key_text k ++ (codes ": " ++ (written s t ++ written_fields s false fs)))

-- an expression as a part of another, where these levels are taken
abbrev pub written_part : Slots → ℕ → ℕ → Term → Text
written_part s low high t = bracketed (fits low high t) (written s t)
