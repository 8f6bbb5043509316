-- What is written in Cedar's JSON of policies and reads back as itself.
use Rattle.std.specs.Prelude.{◌≡◌, ⊤, ℕ, zero, suc, true, false, List, [], ◌∷◌, Option, Some, None, Ok, bytes_eq, codes}
use Rattle.std.specs.Str.{all_scalars}
use Rattle.cedar_text_lexer.specs.Words.{is_word}
use Rattle.cedar_model.specs.Terms.{Text, Literal, bool_literal, long_literal, text_literal, entity_literal}
use Rattle.cedar_model.specs.Terms.{ValueType, bool_type, long_type, string_type, set_type, record_type, entity_type}
use Rattle.cedar_model.specs.Terms.{extension_type, PatternPart, character, wildcard, Term, literal, variable, slot}
use Rattle.cedar_model.specs.Terms.{unknown, if_then_else, both, either, unary, binary, call, get_attribute}
use Rattle.cedar_model.specs.Terms.{has_attribute, extended_has, like, is_of_type, set_of, record_of}
use Rattle.cedar_model.specs.Terms.{Terms, no_terms, one_term, Fields, no_fields, one_field}
use Rattle.cedar_model.specs.World.{Slots}
use Rattle.cedar_model.specs.Outcomes.{is_long}
use Rattle.cedar_model.specs.Refusals.{first_repeated}
use Rattle.cedar_expressions.specs.Records.{fields_in_order}
use Rattle.cedar_functions.specs.Functions.{Knowledge, known_of}
use Rattle.cedar_functions.specs.declared.functions.Known.{Known}
use Rattle.cedar_functions.specs.declared.functions.Known.TheVariants as known
use Rattle.cedar_policy_json_reader.specs.Expressions.{expression_said, keys_of_pairs}
use Rattle.cedar_policy_json_reader.specs.Names.{two_part_named, unary_named}
use Rattle.cedar_policy_json_reader.specs.Policies.{put_annotation, annotations_said}
use Rattle.cedar_policy_json_reader.specs.Words.{is_name}
use Rattle.cedar_policy_json_writer.specs.Expressions.{expression_json}
use Rattle.cedar_policy_json_writer.specs.Policies.{annotations_json}

-- ---- leaves

-- a long is of 64 bits, and the type of an entity is a name
abbrev pub IsReadableLiteral : Literal → Type 0
IsReadableLiteral (bool_literal b) = ⊤
IsReadableLiteral (long_literal n) = is_long n ≡ true
IsReadableLiteral (text_literal t) = ⊤
IsReadableLiteral (entity_literal e) = is_name e.type_name ≡ true

-- a type that has a name has one that is a name
abbrev pub IsReadableType : Option ValueType → Type 0
IsReadableType None = ⊤
IsReadableType (Some bool_type) = ⊤
IsReadableType (Some long_type) = ⊤
IsReadableType (Some string_type) = ⊤
IsReadableType (Some set_type) = ⊤
IsReadableType (Some record_type) = ⊤
IsReadableType (Some (entity_type n)) = is_name n ≡ true
IsReadableType (Some (extension_type n)) = is_name n ≡ true

-- its characters are characters
abbrev pub IsReadablePattern : List PatternPart → Type 0
IsReadablePattern [] = ⊤
IsReadablePattern (character c ∷ ps) = (all_scalars (c ∷ []) ≡ true) × IsReadablePattern ps
IsReadablePattern (wildcard ∷ ps) = IsReadablePattern ps

-- ---- calls

-- no operator goes by this name in the JSON
pub record IsNoOperator (k : Text) : Type 0 where
  pub no_two_part : two_part_named k ≡ None
  pub no_unary : unary_named k ≡ None
  pub no_value : bytes_eq k (codes "Value") ≡ false
  pub no_variable : bytes_eq k (codes "Var") ≡ false
  pub no_slot : bytes_eq k (codes "Slot") ≡ false
  pub no_unknown : bytes_eq k (codes "Unknown") ≡ false
  pub no_get : bytes_eq k (codes ".") ≡ false
  pub no_has : bytes_eq k (codes "has") ≡ false
  pub no_like : bytes_eq k (codes "like") ≡ false
  pub no_is : bytes_eq k (codes "is") ≡ false
  pub no_if : bytes_eq k (codes "if-then-else") ≡ false
  pub no_set : bytes_eq k (codes "Set") ≡ false
  pub no_record : bytes_eq k (codes "Record") ≡ false

-- the function is known, with so many arguments; where all are, its name is one
abbrev pub MayBeCalled : Known → Text → ℕ → Type 0
MayBeCalled known.Any f n = is_name f ≡ true
MayBeCalled (known.Function s m) f n = n ≡ m
MayBeCalled known.Nothing f n = ⊥

-- ---- expressions

abbrev pub count_of : Terms → ℕ
count_of no_terms = 0
count_of (one_term t ts) = suc (count_of ts)

abbrev pub pairs_of : Fields → List (Text × Term)
pairs_of no_fields = []
pairs_of (one_field k t fs) = (k, t) ∷ pairs_of fs

-- so it is of each part
abbrev pub AllAre : (Term → Type 0) → Terms → Type 0
AllAre P no_terms = ⊤
AllAre P (one_term t ts) = P t × AllAre P ts

abbrev pub AllAreAt : (Term → Type 0) → Fields → Type 0
AllAreAt P no_fields = ⊤
AllAreAt P (one_field k t fs) = P t × AllAreAt P fs

-- keys are in order, and none is a duplicate
abbrev pub AreInOrder : Fields → Type 0
AreInOrder fs = (first_repeated (keys_of_pairs (pairs_of fs)) ≡ None) × (fields_in_order (pairs_of fs) ≡ fs)

-- one level over parts of which this is so
abbrev pub IsReadableOver : (Term → Type 0) → Knowledge → Term → Type 0
IsReadableOver P k (literal l) = IsReadableLiteral l
IsReadableOver P k (variable v) = ⊤
IsReadableOver P k (slot s) = ⊥
IsReadableOver P k (unknown n t) = IsReadableType t
IsReadableOver P k (if_then_else c t u) = P c × P t × P u
IsReadableOver P k (both t u) = P t × P u
IsReadableOver P k (either t u) = P t × P u
IsReadableOver P k (unary op t) = P t
IsReadableOver P k (binary op t u) = P t × P u
IsReadableOver P k (call f ts) = IsNoOperator f × MayBeCalled (known_of k f) f (count_of ts) × AllAre P ts
IsReadableOver P k (get_attribute t a) = P t
IsReadableOver P k (has_attribute t a) = P t
IsReadableOver P k (extended_has t a more) = P t
IsReadableOver P k (like t p) = P t × IsReadablePattern p
IsReadableOver P k (is_of_type t n) = P t × (is_name n ≡ true)
IsReadableOver P k (set_of ts) = AllAre P ts
IsReadableOver P k (record_of fs) = AreInOrder fs × AllAreAt P fs

-- it can be read within so many levels, where these functions are known
abbrev pub IsReadable : Knowledge → ℕ → Term → Type 0
IsReadable k zero t = ⊥
IsReadable k (suc n) t = IsReadableOver (IsReadable k n) k t

-- what is written of it is read as itself, whatever slots are linked
abbrev pub ExpressionReadsBack : Term → Type 0
ExpressionReadsBack t =
    (s : Slots) (k : Knowledge) (n : ℕ) → IsReadable k n t → expression_said k n (expression_json s t) ≡ Ok t

-- ---- annotations

abbrev pub AreUnderWords : List (Text × Text) → Type 0
AreUnderWords [] = ⊤
AreUnderWords (p ∷ ps) = (is_word p.0 ≡ true) × AreUnderWords ps

-- these put in one after the other behind those
abbrev pub put_all : List (Text × Text) → List (Text × Text) → List (Text × Text)
put_all done [] = done
put_all done (p ∷ ps) = put_all (put_annotation done p.0 p.1) ps

-- what is written of them is read as themselves
abbrev pub AnnotationsReadBack : List (Text × Text) → Type 0
AnnotationsReadBack ps =
    AreUnderWords ps → put_all [] ps ≡ ps → annotations_said (annotations_json ps) ≡ Ok ps
