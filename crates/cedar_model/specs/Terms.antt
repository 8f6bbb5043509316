-- The expressions of Cedar's policy language as plain terms: all 17 kinds, without source locations. A text is the list
-- of its bytes in UTF-8.
use Rattle.std.specs.Prelude.{ℕ, ℤ, Bool, List, [], ◌∷◌, Option}

-- the bytes of a text
abbrev pub Text : Type 0
Text = List ℕ

-- the name of an entity: the text of its type, and its id
pub record EntityName : Type 0 where
  pub type_name : Text
  pub id : Text

-- a literal of the language
pub data Literal : Type 0 where
  bool_literal : Bool → Literal
  long_literal : ℤ → Literal
  text_literal : Text → Literal
  entity_literal : EntityName → Literal

-- the four variables of a request
pub data Variable : Type 0 where
  principal : Variable
  action : Variable
  resource : Variable
  context : Variable

-- the slots of a template
pub data Slot : Type 0 where
  principal_slot : Slot
  resource_slot : Slot

-- the types of values
pub data ValueType : Type 0 where
  bool_type : ValueType
  long_type : ValueType
  string_type : ValueType
  set_type : ValueType
  record_type : ValueType
  entity_type : Text → ValueType
  extension_type : Text → ValueType

pub data UnaryOperator : Type 0 where
  not_operator : UnaryOperator
  neg_operator : UnaryOperator
  is_empty_operator : UnaryOperator

pub data BinaryOperator : Type 0 where
  eq_operator : BinaryOperator
  less_operator : BinaryOperator
  less_eq_operator : BinaryOperator
  add_operator : BinaryOperator
  sub_operator : BinaryOperator
  mul_operator : BinaryOperator
  in_operator : BinaryOperator
  contains_operator : BinaryOperator
  contains_all_operator : BinaryOperator
  contains_any_operator : BinaryOperator
  get_tag_operator : BinaryOperator
  has_tag_operator : BinaryOperator

-- a part of a `like` pattern: one character, by its code, or any run of characters
pub data PatternPart : Type 0 where
  character : ℕ → PatternPart
  wildcard : PatternPart

-- an expression
mutual
  pub data Term : Type 0 where
    literal : Literal → Term
    variable : Variable → Term
    slot : Slot → Term
    unknown : Text → Option ValueType → Term
    if_then_else : Term → Term → Term → Term
    both : Term → Term → Term
    either : Term → Term → Term
    unary : UnaryOperator → Term → Term
    binary : BinaryOperator → Term → Term → Term
    call : Text → Terms → Term
    get_attribute : Term → Text → Term
    has_attribute : Term → Text → Term
    extended_has : Term → Text → List Text → Term
    like : Term → List PatternPart → Term
    is_of_type : Term → Text → Term
    set_of : Terms → Term
    record_of : Fields → Term

  -- parts in order
  pub data Terms : Type 0 where
    no_terms : Terms
    one_term : Term → Terms → Terms

  -- parts under their keys
  pub data Fields : Type 0 where
    no_fields : Fields
    one_field : Text → Term → Fields → Fields

-- a list of terms as `Terms`
abbrev pub terms_of : List Term → Terms
terms_of [] = no_terms
terms_of (t ∷ ts) = one_term t (terms_of ts)

-- pairs of a key and a term as `Fields`
abbrev pub fields_of : List (Text × Term) → Fields
fields_of [] = no_fields
fields_of (f ∷ fs) = one_field f.0 f.1 (fields_of fs)
