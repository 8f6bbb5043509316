use Rattle.std.proofs.Common.{arith}
use Rattle.cedar_values.proofs.Order.{size-Record}
use Rattle.cedar_values.proofs.value.hashes.+hashes.Goals as goal

pub hash_kind-hash_entries-requires : goal.hash_kind-hash_entries-requires
hash_kind-hash_entries-requires g t c κs within =
    (rw c.deref.ensures (omega (arith, size-Record _ _ c.in-Record.is)), within)
