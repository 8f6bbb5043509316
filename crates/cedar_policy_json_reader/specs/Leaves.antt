-- Literals, variables, unknowns, attributes and patterns.
use Rattle.std.specs.Prelude.{ℕ, ◌+◌, List, [], ◌∷◌, map, ℤ, if◌then◌else◌, Option, Some, None, Ok, bytes_eq, codes}
use Rattle.std.specs.Option.{option_and_then}
use Rattle.std.specs.Str.{chars}
use Rattle.json.specs.Json.{Json, null, boolean, number, string, array, object, Items, no_items, item, Members}
use Rattle.json.specs.Find.{as_str, get}
use Rattle.cedar_model.specs.Terms.{Text, EntityName, Literal, bool_literal, long_literal, text_literal, entity_literal}
use Rattle.cedar_model.specs.Terms.{Variable, ValueType, entity_type, extension_type, PatternPart, character, wildcard}
use Rattle.cedar_model.specs.Terms.{Term, unknown, has_attribute, extended_has}
use Rattle.cedar_policy_json_reader.specs.declared.errors.RefusalReason.{RefusalReason}
use Rattle.cedar_policy_json_reader.specs.declared.errors.RefusalReason.TheVariants as reasons
use Rattle.cedar_policy_json_reader.specs.Names.{variable_named, type_named}
use Rattle.cedar_policy_json_reader.specs.Numbers.{long_of_text}
use Rattle.cedar_policy_json_reader.specs.Paths.{at_key, at_index}
use Rattle.cedar_policy_json_reader.specs.Refusals.{Said, refused, under, before, all_before, both_said, made_of, and_then}
use Rattle.cedar_policy_json_reader.specs.Shapes.{Member, sole, one_at, two_at, text_said}
use Rattle.cedar_policy_json_reader.specs.Words.{is_name}

-- what was found, or this refusal
abbrev pub or_refused : {T : Type 0} → RefusalReason → Option T → Said T
or_refused r None = refused r
or_refused r (Some t) = Ok t

-- ---- names

abbrev pub name_of_text : Text → Said Text
name_of_text t = if is_name t then Ok t else refused reasons.NotAName

-- words with `::` between them, none of which is reserved
abbrev pub name_said : Json → Said Text
name_said j = and_then name_of_text (text_said j)

abbrev pub entity_of : Text × Text → EntityName
entity_of p = record { type_name = p.0; id = p.1 }

abbrev pub type_and_id_said : Json × Json → Said (Text × Text)
type_and_id_said p = both_said (under (at_key (codes "type")) (name_said p.0)) (under (at_key (codes "id")) (text_said p.1))

-- a type and an id
abbrev pub uid_said : Json → Said EntityName
uid_said j = made_of entity_of (and_then type_and_id_said (two_at (codes "type") (codes "id") j))

-- ---- literals

abbrev pub long_said : Option ℤ → Said Literal
long_said (Some n) = Ok (long_literal n)
long_said None = refused reasons.NotALong

-- the entity at `__entity`, the one member
abbrev pub escape_said : Option Member → Said Literal
escape_said None = refused reasons.NotALiteral
escape_said (Some m) =
    if bytes_eq m.0 (codes "__entity") then under (at_key (codes "__entity")) (made_of entity_literal (uid_said m.1)) else
    refused reasons.NotALiteral

abbrev pub literal_said : Json → Said Literal
literal_said null = refused reasons.NotALiteral
literal_said (boolean b) = Ok (bool_literal b)
literal_said (number t) = long_said (long_of_text t)
literal_said (string t) = Ok (text_literal t)
literal_said (array js) = refused reasons.NotALiteral
literal_said (object ms) = escape_said (sole ms)

-- ---- variables

abbrev pub variable_said : Json → Said Variable
variable_said j = or_refused reasons.NotAVariable (option_and_then variable_named (as_str j))

-- ---- unknowns

-- a type that has no name of its own
abbrev pub plain_type_said : Json → Said ValueType
plain_type_said j = or_refused reasons.NotAType (option_and_then type_named (as_str j))

-- the type of entities, or of values of an extension, of this name
abbrev pub kind_named : Text → Text → Option ValueType
kind_named n k =
    if bytes_eq k (codes "Entity") then Some (entity_type n) else (
    if bytes_eq k (codes "Extension") then Some (extension_type n) else
    None)

abbrev pub kind_said : Json → Text → Said ValueType
kind_said j n = under (at_key (codes "type")) (or_refused reasons.NotAType (option_and_then (kind_named n) (as_str j)))

abbrev pub kind_and_name_said : Json × Json → Said ValueType
kind_and_name_said p = and_then (kind_said p.0) (under (at_key (codes "name")) (name_said p.1))

abbrev pub plain_kind_said : Json → Said ValueType
plain_kind_said j = under (at_key (codes "type")) (plain_type_said j)

-- a type with a name, or without one
abbrev pub type_by_name : Option Json → Json → Said ValueType
type_by_name None j = and_then plain_kind_said (one_at (codes "type") j)
type_by_name (Some n) j = and_then kind_and_name_said (two_at (codes "type") (codes "name") j)

-- a type, as Cedar's JSON of schemas writes it, without what is in a set or a record
abbrev pub type_said : Json → Said ValueType
type_said j = type_by_name (get (codes "name") j) j

abbrev pub untyped : Text → Term
untyped n = unknown n None

abbrev pub typed : Text × ValueType → Term
typed p = unknown p.0 (Some p.1)

abbrev pub unknown_name_said : Json → Said Text
unknown_name_said j = under (at_key (codes "name")) (text_said j)

abbrev pub name_and_type_said : Json × Json → Said (Text × ValueType)
name_and_type_said p = both_said (unknown_name_said p.0) (under (at_key (codes "type")) (type_said p.1))

-- an unknown with its type, or without one
abbrev pub unknown_by_type : Option Json → Json → Said Term
unknown_by_type None j = made_of untyped (and_then unknown_name_said (one_at (codes "name") j))
unknown_by_type (Some t) j = made_of typed (and_then name_and_type_said (two_at (codes "name") (codes "type") j))

abbrev pub unknown_said : Json → Said Term
unknown_said j = unknown_by_type (get (codes "type") j) j

-- ---- attributes

-- an attribute, or attributes one behind the other
pub data Attributes : Type 0 where
  one_attribute : Text → Attributes
  attributes_from : Text → List Text → Attributes

abbrev pub has_term : Attributes → Term → Term
has_term (one_attribute k) t = has_attribute t k
has_term (attributes_from k ks) t = extended_has t k ks

-- texts in order, the first of this index
abbrev pub texts_said : ℕ → Items → Said (List Text)
texts_said n no_items = Ok []
texts_said n (item j js) = before (under (at_index n) (text_said j)) (texts_said (n + 1) js)

abbrev pub first_and_rest : List Text → Said Attributes
first_and_rest [] = refused reasons.NotAnAttribute
first_and_rest (k ∷ ks) = Ok (attributes_from k ks)

-- a text, or an array of texts, of which there is one at least
abbrev pub attributes_said : Json → Said Attributes
attributes_said null = refused reasons.NotAnAttribute
attributes_said (boolean b) = refused reasons.NotAnAttribute
attributes_said (number t) = refused reasons.NotAnAttribute
attributes_said (string t) = Ok (one_attribute t)
attributes_said (array js) = and_then first_and_rest (texts_said 0 js)
attributes_said (object ms) = refused reasons.NotAnAttribute

-- ---- patterns

abbrev pub wildcard_said : Text → Said (List PatternPart)
wildcard_said t = if bytes_eq t (codes "Wildcard") then Ok (wildcard ∷ []) else refused reasons.NotAPatternPart

-- each character of the text stands for itself
abbrev pub characters_of : Text → List PatternPart
characters_of t = map character (chars t)

abbrev pub characters_said : Json → Said (List PatternPart)
characters_said j = made_of characters_of (under (at_key (codes "Literal")) (text_said j))

-- the text at `Literal`, the one member
abbrev pub part_said : Json → Said (List PatternPart)
part_said null = refused reasons.NotAPatternPart
part_said (boolean b) = refused reasons.NotAPatternPart
part_said (number t) = refused reasons.NotAPatternPart
part_said (string t) = wildcard_said t
part_said (array js) = refused reasons.NotAPatternPart
part_said (object ms) = and_then characters_said (one_at (codes "Literal") (object ms))

-- parts in order, the first of this index
abbrev pub parts_said : ℕ → Items → Said (List PatternPart)
parts_said n no_items = Ok []
parts_said n (item j js) = all_before (under (at_index n) (part_said j)) (parts_said (n + 1) js)

abbrev pub parts_in : Option Items → Said (List PatternPart)
parts_in None = refused reasons.NotAnArray
parts_in (Some js) = parts_said 0 js
