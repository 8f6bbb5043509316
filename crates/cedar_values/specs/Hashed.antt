-- What a value feeds a hasher: its abstract value, part by part. Each part of a set or a record comes after a 1, and a 0 ends them.
use Rattle.std.specs.Prelude.{◌≡◌, ◌++◌, IsTrue}
use Rattle.std.specs.Hash as fed
use Rattle.std.proofs.Common.{ap, rules}
use Rattle.cedar_model.specs.Terms.{Literal, bool_literal, long_literal, text_literal, entity_literal, EntityName}
use Rattle.cedar_model.specs.Values.{AbstractValue, plain, set_value, record_value, extension_value, AbstractValues, no_values, one_value, AbstractFields, no_values_at, one_value_at, Represented, abstract_value}
use Rattle.cedar_model.specs.lemmas.Keys.{value_eq-true}
use Rattle.cedar_values.specs.Compared.{represented_eq}

abbrev pub entity_writes : EntityName → fed.HashWrites
entity_writes e = fed.str e.type_name ++ fed.str e.id

abbrev pub literal_writes : Literal → fed.HashWrites
literal_writes (bool_literal b) = fed.u8 0 ++ fed.bool b
literal_writes (long_literal n) = fed.u8 1 ++ fed.i64 n
literal_writes (text_literal t) = fed.u8 2 ++ fed.str t
literal_writes (entity_literal e) = fed.u8 3 ++ entity_writes e

abbrev mutual
  pub value_writes : AbstractValue → fed.HashWrites
  value_writes (plain l) = literal_writes l
  value_writes (set_value vs) = fed.u8 4 ++ values_writes vs
  value_writes (record_value fs) = fed.u8 5 ++ value_fields_writes fs
  value_writes (extension_value t k) = fed.u8 6 ++ (fed.str t ++ fed.slice fed.u8 k)

  pub values_writes : AbstractValues → fed.HashWrites
  values_writes no_values = fed.u8 0
  values_writes (one_value v vs) = fed.u8 1 ++ (value_writes v ++ values_writes vs)

  pub value_fields_writes : AbstractFields → fed.HashWrites
  value_fields_writes no_values_at = fed.u8 0
  value_fields_writes (one_value_at k v fs) = fed.u8 1 ++ (fed.str k ++ (value_writes v ++ value_fields_writes fs))

-- the writes of a value, representations aside
abbrev pub represented_writes : Represented → fed.HashWrites
represented_writes v = value_writes (abstract_value v)

pub represented_writes-equal : (v w : Represented) → IsTrue (represented_eq v w) → represented_writes v ≡ represented_writes w
represented_writes-equal v w e = ap value_writes (value_eq-true (abstract_value v) (abstract_value w) (search rules))
