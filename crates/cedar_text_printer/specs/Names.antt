-- Names of attributes, and what stands behind a part: bare where they are identifiers, else as texts in double quotes.
use Rattle.std.specs.Prelude.{List, ◌∷◌, ◌++◌, if◌then◌else◌, codes, flat_map}
use Rattle.cedar_model.specs.Terms.{Text, EntityName, Literal, bool_literal, long_literal, text_literal, entity_literal, PatternPart}
use Rattle.cedar_text_lexer.specs.Words.{is_identifier}
use Rattle.cedar_names.specs.Texts as names
use Rattle.cedar_text_printer.specs.Escapes.{written_quoted, pattern_text}

-- the key of a field, or an attribute behind `has`
abbrev pub key_text : Text → Text
key_text k = if is_identifier k then k else written_quoted k

-- `["a b"]`
abbrev pub index_text : Text → Text
index_text a = codes "[" ++ (written_quoted a ++ codes "]")

-- `.a`, or `["a b"]`
abbrev pub attribute_text : Text → Text
attribute_text a = if is_identifier a then 46 ∷ a else index_text a

-- a further attribute of an extended has
abbrev pub further_text : Text → Text
further_text a = 46 ∷ key_text a

abbrev pub has_text : Text → Text
has_text a = codes " has " ++ key_text a

abbrev pub path_text : Text → List Text → Text
path_text a more = codes " has " ++ (key_text a ++ flat_map further_text more)

abbrev pub like_text : List PatternPart → Text
like_text ps = codes " like " ++ pattern_text ps

-- an entity: its type, `::` and its id in double quotes
abbrev pub entity_text : EntityName → Text
entity_text e = e.type_name ++ (codes "::" ++ written_quoted e.id)

abbrev pub literal_text : Literal → Text
literal_text (bool_literal b) = names.literal_text (bool_literal b)
literal_text (long_literal z) = names.literal_text (long_literal z)
literal_text (text_literal t) = written_quoted t
literal_text (entity_literal e) = entity_text e

-- an unknown: its name, and no annotation
abbrev pub unknown_text : Text → Text
unknown_text n = codes "unknown(" ++ (written_quoted n ++ codes ")")
