-- Sets in canonical order: strictly in the order of values, so each element once. Of equal elements the first stays,
-- with its representation.
use Rattle.std.specs.Prelude.{◌≡◌, ℕ, ◌+◌, Bool, false, cond, ◌||◌, List, [], ◌∷◌, Option, Some, None}
use Rattle.std.specs.declared.cmp.Ordering.TheVariants.{Less}
use Rattle.std.specs.Ordering.{match_ordering}
use Rattle.cedar_model.specs.Terms.{Text}
use Rattle.cedar_model.specs.Values.{AbstractValue, AbstractValues, no_values, one_value, Represented}
use Rattle.cedar_model.specs.Values.{plain_represented, set_represented, record_represented, extension_represented}
use Rattle.cedar_model.specs.Values.{RepresentedValues, no_represented, one_represented, RepresentedFields}
use Rattle.cedar_model.specs.Values.{no_represented_at, one_represented_at, abstract_value, abstract_values}
use Rattle.cedar_model.specs.Keys.{value_cmp, value_eq}

-- ---- lists of values

-- a list of values as `RepresentedValues`
abbrev pub represented_values_of : List Represented → RepresentedValues
represented_values_of [] = no_represented
represented_values_of (v ∷ vs) = one_represented v (represented_values_of vs)

abbrev pub list_of_represented : RepresentedValues → List Represented
list_of_represented no_represented = []
list_of_represented (one_represented v vs) = v ∷ list_of_represented vs

-- pairs of a key and a value as `RepresentedFields`
abbrev pub represented_fields_of : List (Text × Represented) → RepresentedFields
represented_fields_of [] = no_represented_at
represented_fields_of (f ∷ fs) = one_represented_at f.0 f.1 (represented_fields_of fs)

abbrev pub list_of_represented_fields : RepresentedFields → List (Text × Represented)
list_of_represented_fields no_represented_at = []
list_of_represented_fields (one_represented_at k v fs) = (k, v) ∷ list_of_represented_fields fs

-- ---- sets of values without representations

-- the value in its place, unless it is there
abbrev pub insert_value : AbstractValue → AbstractValues → AbstractValues
insert_value a no_values = one_value a no_values
insert_value a (one_value b bs) =
    match_ordering (value_cmp a b) (one_value a (one_value b bs)) (one_value b bs) (one_value b (insert_value a bs))

abbrev pub insert_each_value : List AbstractValue → AbstractValues → AbstractValues
insert_each_value [] bs = bs
insert_each_value (v ∷ vs) bs = insert_each_value vs (insert_value v bs)

-- the set of the values of a list
abbrev pub abstract_set : List AbstractValue → AbstractValues
abstract_set vs = insert_each_value vs no_values

-- whether a set has a value
abbrev pub has_value : AbstractValue → AbstractValues → Bool
has_value a no_values = false
has_value a (one_value b bs) = value_eq a b || has_value a bs

abbrev pub IsBelowFirst : AbstractValue → AbstractValues → Type 0
IsBelowFirst a no_values = Unit {0}
IsBelowFirst a (one_value b bs) = value_cmp a b ≡ Less

-- strictly in the order of values
abbrev pub AreInOrder : AbstractValues → Type 0
AreInOrder no_values = Unit {0}
AreInOrder (one_value b bs) = IsBelowFirst b bs × AreInOrder bs

-- ---- sets of values with representations

-- the value in its place, unless one that is equal is there: that one stays
abbrev pub insert_represented : Represented → RepresentedValues → RepresentedValues
insert_represented v no_represented = one_represented v no_represented
insert_represented v (one_represented w ws) =
    match_ordering (value_cmp (abstract_value v) (abstract_value w)) (one_represented v (one_represented w ws))
    (one_represented w ws) (one_represented w (insert_represented v ws))

abbrev pub insert_each : List Represented → RepresentedValues → RepresentedValues
insert_each [] ws = ws
insert_each (v ∷ vs) ws = insert_each vs (insert_represented v ws)

-- the set of the values of a list: of equal ones the first stays
abbrev pub canonical_set : List Represented → RepresentedValues
canonical_set vs = insert_each vs no_represented

abbrev pub IsStrictlyInOrder : RepresentedValues → Type 0
IsStrictlyInOrder vs = AreInOrder (abstract_values vs)

-- the first element that equals the value
abbrev pub find_equal : AbstractValue → RepresentedValues → Option Represented
find_equal a no_represented = None
find_equal a (one_represented v vs) = cond (value_eq a (abstract_value v)) (Some v) (find_equal a vs)

-- each set in the value is strictly in order
abbrev mutual
  pub IsCanonical : Represented → Type 0
  IsCanonical (plain_represented l) = Unit {0}
  IsCanonical (set_represented vs) = IsStrictlyInOrder vs × AreCanonical vs
  IsCanonical (record_represented fs) = AreCanonicalAt fs
  IsCanonical (extension_represented t k f ts) = Unit {0}

  pub AreCanonical : RepresentedValues → Type 0
  AreCanonical no_represented = Unit {0}
  AreCanonical (one_represented v vs) = IsCanonical v × AreCanonical vs

  pub AreCanonicalAt : RepresentedFields → Type 0
  AreCanonicalAt no_represented_at = Unit {0}
  AreCanonicalAt (one_represented_at k v fs) = IsCanonical v × AreCanonicalAt fs

-- ---- the size of a value: more than that of each part

abbrev mutual
  pub represented_size : Represented → ℕ
  represented_size (plain_represented l) = 1
  represented_size (set_represented vs) = represented_values_size vs + 1
  represented_size (record_represented fs) = represented_fields_size fs + 1
  represented_size (extension_represented t k f ts) = 1

  pub represented_values_size : RepresentedValues → ℕ
  represented_values_size no_represented = 1
  represented_values_size (one_represented v vs) = represented_size v + represented_values_size vs + 1

  pub represented_fields_size : RepresentedFields → ℕ
  represented_fields_size no_represented_at = 1
  represented_fields_size (one_represented_at k v fs) = represented_size v + represented_fields_size fs + 1

-- ---- the same without representations

-- a list of values as `AbstractValues`
abbrev pub abstract_values_of : List AbstractValue → AbstractValues
abstract_values_of [] = no_values
abstract_values_of (v ∷ vs) = one_value v (abstract_values_of vs)

abbrev pub list_of_abstract : AbstractValues → List AbstractValue
list_of_abstract no_values = []
list_of_abstract (one_value v vs) = v ∷ list_of_abstract vs
