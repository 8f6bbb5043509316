-- One key for the order, the equality and the code of values: a tree whose leaves are numbers, compared from the left.
use Rattle.std.specs.Prelude.{ℕ, ℤ, pos, negsuc, Bool, true, false, cond, ◌==◌, [], ◌∷◌}
use Rattle.std.specs.declared.cmp.Ordering.{Ordering}
use Rattle.std.specs.declared.cmp.Ordering.TheVariants.{Less, Equal, Greater}
use Rattle.std.specs.Ordering.{ordering_then, int_cmp, is_eq}
use Rattle.cedar_model.specs.Terms.{Text, EntityName, Literal, bool_literal, long_literal, text_literal, entity_literal}
use Rattle.cedar_model.specs.Values.{AbstractValue, plain, set_value, record_value, extension_value, AbstractValues}
use Rattle.cedar_model.specs.Values.{no_values, one_value, AbstractFields, no_values_at, one_value_at}

pub data Key : Type 0 where
  end_key : Key
  number_key : ℤ → Key
  pair_key : Key → Key → Key

-- the end before numbers before pairs; pairs by their first parts, then by their second
abbrev pub key_cmp : Key → Key → Ordering
key_cmp end_key end_key = Equal
key_cmp end_key (number_key n) = Less
key_cmp end_key (pair_key c d) = Less
key_cmp (number_key m) end_key = Greater
key_cmp (number_key m) (number_key n) = int_cmp m n
key_cmp (number_key m) (pair_key c d) = Less
key_cmp (pair_key a b) end_key = Greater
key_cmp (pair_key a b) (number_key n) = Greater
key_cmp (pair_key a b) (pair_key c d) = ordering_then (key_cmp a c) (key_cmp b d)

-- ---- the key of a value

-- a text: its bytes, in order
abbrev pub text_key : Text → Key
text_key [] = end_key
text_key (b ∷ bs) = pair_key (number_key (pos b)) (text_key bs)

abbrev pub bool_key : Bool → Key
bool_key false = number_key (pos 0)
bool_key true = number_key (pos 1)

-- the name of an entity: its type's text, then its id
abbrev pub entity_key : EntityName → Key
entity_key e = pair_key (text_key e.type_name) (text_key e.id)

-- bools before longs before texts before entities
abbrev pub literal_key : Literal → Key
literal_key (bool_literal b) = pair_key (number_key (pos 0)) (bool_key b)
literal_key (long_literal n) = pair_key (number_key (pos 1)) (number_key n)
literal_key (text_literal t) = pair_key (number_key (pos 2)) (text_key t)
literal_key (entity_literal e) = pair_key (number_key (pos 3)) (entity_key e)

-- literals before sets before records before extension values; a record is the list key, value, key, value ..
abbrev mutual
  pub value_key : AbstractValue → Key
  value_key (plain l) = literal_key l
  value_key (set_value vs) = pair_key (number_key (pos 4)) (values_key vs)
  value_key (record_value fs) = pair_key (number_key (pos 5)) (value_fields_key fs)
  value_key (extension_value t k) = pair_key (number_key (pos 6)) (pair_key (text_key t) (text_key k))

  pub values_key : AbstractValues → Key
  values_key no_values = end_key
  values_key (one_value v vs) = pair_key (value_key v) (values_key vs)

  pub value_fields_key : AbstractFields → Key
  value_fields_key no_values_at = end_key
  value_fields_key (one_value_at k v fs) = pair_key (text_key k) (pair_key (value_key v) (value_fields_key fs))

-- ---- the value of a key

abbrev pub number_of_key : Key → ℕ
number_of_key end_key = 0
number_of_key (number_key (pos n)) = n
number_of_key (number_key (negsuc n)) = 0
number_of_key (pair_key a b) = 0

abbrev pub long_of_key : Key → ℤ
long_of_key end_key = pos 0
long_of_key (number_key n) = n
long_of_key (pair_key a b) = pos 0

abbrev pub text_of_key : Key → Text
text_of_key end_key = []
text_of_key (number_key n) = []
text_of_key (pair_key a b) = number_of_key a ∷ text_of_key b

abbrev pub bool_of_key : Key → Bool
bool_of_key k = number_of_key k == 1

abbrev pub first_of_key : Key → Key
first_of_key end_key = end_key
first_of_key (number_key n) = end_key
first_of_key (pair_key a b) = a

abbrev pub second_of_key : Key → Key
second_of_key end_key = end_key
second_of_key (number_key n) = end_key
second_of_key (pair_key a b) = b

abbrev pub entity_of_key : Key → EntityName
entity_of_key k = record { type_name = text_of_key (first_of_key k); id = text_of_key (second_of_key k) }

abbrev pub literal_of_parts : ℕ → Key → Literal
literal_of_parts n k =
    cond (n == 0) (bool_literal (bool_of_key k))
    (cond (n == 1) (long_literal (long_of_key k))
    (cond (n == 2) (text_literal (text_of_key k)) (entity_literal (entity_of_key k))))

abbrev pub literal_of_key : Key → Literal
literal_of_key k = literal_of_parts (number_of_key (first_of_key k)) (second_of_key k)

abbrev pub value_of_parts : ℕ → Key → AbstractValues → AbstractFields → AbstractValue
value_of_parts n k vs fs =
    cond (n == 4) (set_value vs) (cond (n == 5) (record_value fs)
    (cond (n == 6) (extension_value (text_of_key (first_of_key k)) (text_of_key (second_of_key k)))
    (plain (literal_of_parts n k))))

abbrev mutual
  pub value_of_key : Key → AbstractValue
  value_of_key end_key = plain (bool_literal false)
  value_of_key (number_key n) = plain (bool_literal false)
  value_of_key (pair_key a b) = value_of_parts (number_of_key a) b (values_of_key b) (value_fields_of_key b)

  pub values_of_key : Key → AbstractValues
  values_of_key end_key = no_values
  values_of_key (number_key n) = no_values
  values_of_key (pair_key a b) = one_value (value_of_key a) (values_of_key b)

  pub value_fields_of_key : Key → AbstractFields
  value_fields_of_key end_key = no_values_at
  value_fields_of_key (number_key n) = no_values_at
  value_fields_of_key (pair_key a end_key) = no_values_at
  value_fields_of_key (pair_key a (number_key n)) = no_values_at
  value_fields_of_key (pair_key a (pair_key b c)) =
      one_value_at (text_of_key a) (value_of_key b) (value_fields_of_key c)

-- ---- the order of values

-- the order of values
abbrev pub value_cmp : AbstractValue → AbstractValue → Ordering
value_cmp a b = key_cmp (value_key a) (value_key b)

-- the equality of values
abbrev pub value_eq : AbstractValue → AbstractValue → Bool
value_eq a b = is_eq (value_cmp a b)
