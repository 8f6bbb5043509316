-- The order of values between kinds, and inside sets and records, which a function of `kinds` has as its contract.
use Rattle.std.specs.Prelude.{◌≡◌, ℕ, ◌<◌}
use Rattle.std.specs.declared.cmp.Ordering.TheVariants.{Less}
use Rattle.std.specs.Ordering.{ordering_then}
use Rattle.cedar_model.specs.Terms.{Text, bool_literal, long_literal, text_literal, entity_literal}
use Rattle.cedar_model.specs.Values.{AbstractValue, plain, set_value, record_value, extension_value, AbstractValues}
use Rattle.cedar_model.specs.Values.{no_values, one_value, AbstractFields, no_values_at, one_value_at}
use Rattle.cedar_model.specs.Keys.{value_cmp}

-- the place of a value's kind
unfoldable pub kind_rank : AbstractValue → ℕ
kind_rank (plain (bool_literal b)) = 0
kind_rank (plain (long_literal n)) = 1
kind_rank (plain (text_literal t)) = 2
kind_rank (plain (entity_literal e)) = 3
kind_rank (set_value vs) = 4
kind_rank (record_value fs) = 5
kind_rank (extension_value t k) = 6

-- bools before longs before texts before entities before sets before records before extension values
abbrev pub KindsComeInOrder : Type 0
KindsComeInOrder = (a b : AbstractValue) → kind_rank a < kind_rank b → value_cmp a b ≡ Less

-- sets element by element, a shorter one first
abbrev pub SetsAreOrdered : Type 0
SetsAreOrdered =
    ((b : AbstractValue) (bs : AbstractValues) →
    value_cmp (set_value no_values) (set_value (one_value b bs)) ≡ Less) ×
    ((a b : AbstractValue) (vs bs : AbstractValues) →
    value_cmp (set_value (one_value a vs)) (set_value (one_value b bs)) ≡ ordering_then (value_cmp a b)
    (value_cmp (set_value vs) (set_value bs)))

-- records by the first key, then its value, then the rest, a shorter one first
abbrev pub RecordsAreOrdered : Type 0
RecordsAreOrdered =
    ((k : Text) (v : AbstractValue) (fs : AbstractFields) →
    value_cmp (record_value no_values_at) (record_value (one_value_at k v fs)) ≡ Less) ×
    ((k l : Text) (u v : AbstractValue) (fs gs : AbstractFields) →
    value_cmp (record_value (one_value_at k u fs)) (record_value (one_value_at l v gs)) ≡ ordering_then
    (value_cmp (plain (text_literal k)) (plain (text_literal l))) (ordering_then (value_cmp u v)
    (value_cmp (record_value fs) (record_value gs))))
