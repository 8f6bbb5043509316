-- The laws of the order of values and of canonical sets, which the functions of `values` have as their contracts.
use Rattle.std.specs.Prelude.{◌≡◌, ◌↔◌, ◌<◌, ℤ, Bool, true, List, map}
use Rattle.std.specs.declared.cmp.Ordering.TheVariants.{Equal}
use Rattle.std.specs.Ordering.{ordering_then, int_cmp, nat_cmp, bool_cmp}
use Rattle.std.specs.Cmp.{IsTotalOrder, IsEquivalence}
use Rattle.std.specs.Cmp.Lexicographic.{slice_cmp}
use Rattle.cedar_model.specs.Terms.{Text, EntityName, bool_literal, long_literal, text_literal, entity_literal, Term}
use Rattle.cedar_model.specs.Values.{AbstractValue, plain, extension_value, Represented, RepresentedValues}
use Rattle.cedar_model.specs.Values.{one_represented, set_represented, record_represented, RepresentedFields}
use Rattle.cedar_model.specs.Values.{one_represented_at, AbstractValues, abstract_value, abstract_values}
use Rattle.cedar_model.specs.Keys.{value_key, value_of_key, value_cmp, value_eq}
use Rattle.cedar_model.specs.lemmas.Codes.{term_key, term_of_key, represented_key, represented_of_key}
use Rattle.cedar_model.specs.Sets.{represented_values_of, list_of_represented, canonical_set, IsStrictlyInOrder}
use Rattle.cedar_model.specs.Sets.{find_equal, has_value, AreInOrder, abstract_set, represented_size}
use Rattle.cedar_model.specs.Sets.{represented_values_size, represented_fields_size}

-- the order of values is total
abbrev pub ValuesAreOrdered : Type 0
ValuesAreOrdered = IsTotalOrder value_cmp

-- its `Equal` is equality, and so is the test
abbrev pub EqualIsEquality : Type 0
EqualIsEquality = (a b : AbstractValue) → (value_cmp a b ≡ Equal) ↔ (a ≡ b)

abbrev pub TestIsEquality : Type 0
TestIsEquality = (a b : AbstractValue) → (value_eq a b ≡ true) ↔ (a ≡ b)

abbrev pub TestIsEquivalence : Type 0
TestIsEquivalence = IsEquivalence value_eq

-- each value, each term and each value with its representation comes back from its key
abbrev pub KeysComeBack : Type 0
KeysComeBack =
    ((v : AbstractValue) → value_of_key (value_key v) ≡ v) × ((t : Term) → term_of_key (term_key t) ≡ t)
    × ((v : Represented) → represented_of_key (represented_key v) ≡ v)

-- the order at each kind: bools with false first, longs, texts by bytes, entities by type and then id, extension values
-- by type and then key
abbrev pub BoolsAreOrdered : Type 0
BoolsAreOrdered =
    (a b : Bool) → value_cmp (plain (bool_literal a)) (plain (bool_literal b)) ≡ bool_cmp a b

abbrev pub LongsAreOrdered : Type 0
LongsAreOrdered =
    (m n : ℤ) → value_cmp (plain (long_literal m)) (plain (long_literal n)) ≡ int_cmp m n

abbrev pub TextsAreOrdered : Type 0
TextsAreOrdered =
    (s t : Text) → value_cmp (plain (text_literal s)) (plain (text_literal t)) ≡ slice_cmp nat_cmp s t

abbrev pub EntitiesAreOrdered : Type 0
EntitiesAreOrdered =
    (a b : EntityName) → value_cmp (plain (entity_literal a)) (plain (entity_literal b))
    ≡ ordering_then (slice_cmp nat_cmp a.type_name b.type_name) (slice_cmp nat_cmp a.id b.id)

abbrev pub ExtensionValuesAreOrdered : Type 0
ExtensionValuesAreOrdered =
    (s t j k : Text) → value_cmp (extension_value s j) (extension_value t k)
    ≡ ordering_then (slice_cmp nat_cmp s t) (slice_cmp nat_cmp j k)

-- a canonical set is strictly in order
abbrev pub CanonicalSetsAreInOrder : Type 0
CanonicalSetsAreInOrder = (vs : List Represented) → IsStrictlyInOrder (canonical_set vs)

-- it has what the list has, and of equal elements the first
abbrev pub CanonicalSetsKeepTheFirst : Type 0
CanonicalSetsKeepTheFirst =
    (a : AbstractValue) (vs : List Represented)
    → find_equal a (canonical_set vs) ≡ find_equal a (represented_values_of vs)

abbrev pub CanonicalSetsHaveTheMembers : Type 0
CanonicalSetsHaveTheMembers =
    (a : AbstractValue) (vs : List Represented)
    → has_value a (abstract_values (canonical_set vs)) ≡ has_value a (abstract_values (represented_values_of vs))

-- it is the one list in order with these elements
abbrev pub OrderedListsAreOne : Type 0
OrderedListsAreOne =
    (vs ws : RepresentedValues) → IsStrictlyInOrder vs → IsStrictlyInOrder ws
    → ((a : AbstractValue) → find_equal a vs ≡ find_equal a ws) → vs ≡ ws

abbrev pub OrderedMembersAreOne : Type 0
OrderedMembersAreOne =
    (vs ws : AbstractValues) → AreInOrder vs → AreInOrder ws → ((a : AbstractValue) → has_value a vs ≡ has_value a ws)
    → vs ≡ ws

abbrev pub OrderedListsAreCanonical : Type 0
OrderedListsAreCanonical =
    (vs : RepresentedValues) → IsStrictlyInOrder vs → canonical_set (list_of_represented vs) ≡ vs

-- without representations it is the set of the values
abbrev pub CanonicalSetsAreAbstractSets : Type 0
CanonicalSetsAreAbstractSets =
    (vs : List Represented) → abstract_values (canonical_set vs) ≡ abstract_set (map abstract_value vs)

-- a value is larger than each part
abbrev pub ValuesAreLargerThanParts : Type 0
ValuesAreLargerThanParts =
    ((vs : RepresentedValues) → represented_values_size vs < represented_size (set_represented vs))
    × ((fs : RepresentedFields) → represented_fields_size fs < represented_size (record_represented fs))
    × ((v : Represented) (vs : RepresentedValues) → represented_size v < represented_values_size (one_represented v vs))
    × ((k : Text) (v : Represented) (fs : RepresentedFields)
    → represented_size v < represented_fields_size (one_represented_at k v fs))
