use Rattle.std.proofs.Common.{refl}
use Rattle.cedar_model.proofs.Exemplified.{chain_opened}
use Rattle.cedar_partial_stores.proofs.GrowingStores as grow
use Rattle.cedar_partial_stores.proofs.examples.stores_grow.Goals as goal

pub returns-clause-partial_completed : goal.returns-clause-partial_completed
unfolding chain_opened
returns-clause-partial_completed c = (grow.first, grow.begins, grow.partial_completed, refl, refl, refl)

pub returns-clause-larger_completed : goal.returns-clause-larger_completed
unfolding chain_opened
returns-clause-larger_completed c = (
  grow.first,
  grow.last,
  grow.begins,
  grow.chained,
  grow.larger_completed,
  refl,
  refl,
  refl,
  (refl, refl),
  refl,
  refl,
)

pub returns-clause-orphan_refuted : goal.returns-clause-orphan_refuted
unfolding chain_opened
returns-clause-orphan_refuted c = (grow.orphaned, grow.orphan_begins, refl, grow.refuted)
