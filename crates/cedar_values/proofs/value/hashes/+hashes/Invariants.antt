use Rattle.std.proofs.Common.{◌≡◌, drop, fold}
use Rattle.cedar_model.specs.Values.{abstract_values, abstract_fields}
use Rattle.cedar_model.specs.Sets.{represented_values_of}
use Rattle.cedar_values.specs.Sound.{whats, whats_at}
use Rattle.cedar_values.specs.Hashed.{values_writes, value_fields_writes}
use Rattle.cedar_values.proofs.value.hashes.+hashes.Given as goal

abbrev pub invariant-hash_elements-elements : goal.invariant-hash_elements-elements
invariant-hash_elements-elements g l =
    fold g.H.Hasher.write l.state (values_writes (abstract_values (represented_values_of (whats (drop l.i l.elements))))) ≡ fold g.H.Hasher.write l.initial.state (values_writes (abstract_values (represented_values_of (whats l.elements))))

abbrev pub invariant-hash_entries-entries : goal.invariant-hash_entries-entries
invariant-hash_entries-entries g l =
    fold g.H.Hasher.write l.state (value_fields_writes (abstract_fields (whats_at l.key-iterator))) ≡ fold g.H.Hasher.write l.initial.state (value_fields_writes (abstract_fields (whats_at l.pairs.entries)))
