use Rattle.std.specs.Map.{values_of}
use Rattle.std.specs.Vec.Iter.{into_iter_items}
use Rattle.cedar_layers.specs.Scopes.{ArePlaced, AreFiledRight}
use Rattle.cedar_layers.proofs.Repeats.{Fills}
use Rattle.cedar_layers.proofs.policies.policy_set.PolicySet.try_from_iter.Given as goal

abbrev pub invariant-insert : goal.invariant-insert
invariant-insert l =
    Fills l.fn.policies.items l.set.entries (into_iter_items l.policy-iterator) × ArePlaced l.index (values_of l.set.entries)
    × AreFiledRight l.index (values_of l.set.entries)
