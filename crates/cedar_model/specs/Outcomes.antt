-- What an expression can mean, and how values are read: their kinds, types, fields, longs, and the patterns of `like`.
-- In Cedar's documentation: the pages on data types and on the operator `like`.
use Rattle.std.specs.Prelude.{ℕ, ℤ, pos, negsuc, Bool, true, false, cond, ◌&&◌, ◌||◌, ◌==◌, leb, List, [], ◌∷◌, Option}
use Rattle.std.specs.Prelude.{Some, None, bytes_eq}
use Rattle.cedar_model.specs.Terms.{Text, EntityName, bool_literal, long_literal, text_literal, entity_literal}
use Rattle.cedar_model.specs.Terms.{ValueType, bool_type, long_type, string_type, set_type, record_type, entity_type}
use Rattle.cedar_model.specs.Terms.{extension_type, PatternPart, character, wildcard}
use Rattle.cedar_model.specs.Values.{AbstractValue, plain, set_value, record_value, extension_value, AbstractValues}
use Rattle.cedar_model.specs.Values.{AbstractFields, no_values_at, one_value_at}

-- why an evaluation errs
pub data ErrorKind : Type 0 where
  entity_does_not_exist : ErrorKind
  entity_attribute_does_not_exist : ErrorKind
  record_attribute_does_not_exist : ErrorKind
  function_does_not_exist : ErrorKind
  type_error : ErrorKind
  wrong_number_of_arguments : ErrorKind
  integer_overflow : ErrorKind
  unlinked_slot : ErrorKind
  function_failed : ErrorKind

-- a value, or the kind of the first error
pub data Outcome : Type 0 where
  gives : AbstractValue → Outcome
  errs : ErrorKind → Outcome

abbrev pub gives_bool : Bool → Outcome
gives_bool b = gives (plain (bool_literal b))

-- goes on with the value
unfoldable pub and_then : Outcome → (AbstractValue → Outcome) → Outcome
and_then (gives v) next = next v
and_then (errs e) next = errs e

-- goes on with what is needed of a value; a value of another type is a type error
unfoldable pub needing : {A : Type 0} → Option A → (A → Outcome) → Outcome
needing None next = errs type_error
needing (Some x) next = next x

-- ---- values by their kind

unfoldable pub bool_of : AbstractValue → Option Bool
bool_of (plain (bool_literal b)) = Some b
bool_of (plain (long_literal n)) = None
bool_of (plain (text_literal t)) = None
bool_of (plain (entity_literal e)) = None
bool_of (set_value vs) = None
bool_of (record_value fs) = None
bool_of (extension_value t k) = None

unfoldable pub long_of : AbstractValue → Option ℤ
long_of (plain (bool_literal b)) = None
long_of (plain (long_literal n)) = Some n
long_of (plain (text_literal t)) = None
long_of (plain (entity_literal e)) = None
long_of (set_value vs) = None
long_of (record_value fs) = None
long_of (extension_value t k) = None

unfoldable pub text_of : AbstractValue → Option Text
text_of (plain (bool_literal b)) = None
text_of (plain (long_literal n)) = None
text_of (plain (text_literal t)) = Some t
text_of (plain (entity_literal e)) = None
text_of (set_value vs) = None
text_of (record_value fs) = None
text_of (extension_value t k) = None

unfoldable pub entity_of : AbstractValue → Option EntityName
entity_of (plain (bool_literal b)) = None
entity_of (plain (long_literal n)) = None
entity_of (plain (text_literal t)) = None
entity_of (plain (entity_literal e)) = Some e
entity_of (set_value vs) = None
entity_of (record_value fs) = None
entity_of (extension_value t k) = None

unfoldable pub elements_of : AbstractValue → Option AbstractValues
elements_of (plain l) = None
elements_of (set_value vs) = Some vs
elements_of (record_value fs) = None
elements_of (extension_value t k) = None

unfoldable pub fields_of_value : AbstractValue → Option AbstractFields
fields_of_value (plain l) = None
fields_of_value (set_value vs) = None
fields_of_value (record_value fs) = Some fs
fields_of_value (extension_value t k) = None

-- the type of a value
unfoldable pub value_type : AbstractValue → ValueType
value_type (plain (bool_literal b)) = bool_type
value_type (plain (long_literal n)) = long_type
value_type (plain (text_literal t)) = string_type
value_type (plain (entity_literal e)) = entity_type e.type_name
value_type (set_value vs) = set_type
value_type (record_value fs) = record_type
value_type (extension_value t k) = extension_type t

-- ---- equality of texts, entities and types

abbrev pub text_eq : Text → Text → Bool
text_eq s t = bytes_eq s t

abbrev pub entity_eq : EntityName → EntityName → Bool
entity_eq d e = text_eq d.type_name e.type_name && text_eq d.id e.id

unfoldable pub type_eq : ValueType → ValueType → Bool
type_eq bool_type bool_type = true
type_eq long_type long_type = true
type_eq string_type string_type = true
type_eq set_type set_type = true
type_eq record_type record_type = true
type_eq (entity_type s) (entity_type t) = text_eq s t
type_eq (extension_type s) (extension_type t) = text_eq s t
type_eq s t = false

-- whether a text is among these
unfoldable pub has_text : Text → List Text → Bool
has_text t [] = false
has_text t (u ∷ us) = text_eq t u || has_text t us

-- the value at a key of a record
unfoldable pub value_at : Text → AbstractFields → Option AbstractValue
value_at k no_values_at = None
value_at k (one_value_at l v fs) = cond (text_eq k l) (Some v) (value_at k fs)

-- ---- longs

-- whether the number is a 64-bit signed one: from -9223372036854775808 to 9223372036854775807
unfoldable pub is_long : ℤ → Bool
is_long (pos n) = leb n 9223372036854775807
is_long (negsuc n) = leb n 9223372036854775807

-- ---- `like`

unfoldable pub some_end : (List ℕ → Bool) → List ℕ → Bool
some_end test [] = test []
some_end test (c ∷ cs) = test (c ∷ cs) || some_end test cs

-- whether the characters are those of the pattern, where a wildcard is any run of characters
unfoldable pub matches : List PatternPart → List ℕ → Bool
matches [] [] = true
matches [] (d ∷ ds) = false
matches (character c ∷ ps) [] = false
matches (character c ∷ ps) (d ∷ ds) = (c == d) && matches ps ds
matches (wildcard ∷ ps) ds = some_end (matches ps) ds

-- ---- the text of an entity's name

unfoldable pub escaped : Text → Text
escaped [] = []
escaped (b ∷ bs) = cond ((b == 34) || (b == 92)) (92 ∷ b ∷ escaped bs) (b ∷ escaped bs)
