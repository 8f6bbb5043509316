use Rattle.std.proofs.Common.{map}
use Rattle.std.specs.Map.{values_of}
use Rattle.std.specs.Vec.Iter.{into_iter_items}
use Rattle.cedar_layers.proofs.Filing.{AreTakenSoFar}
use Rattle.cedar_layers.proofs.Picking.{ArePickedSoFar}
use Rattle.cedar_layers.proofs.policies.policy_set.pick_policies.Given as goal

abbrev pub invariant-positions : goal.invariant-positions
invariant-positions l =
    ArePickedSoFar l.fn.positions.items (values_of l.fn.policies.entries) (map (λ p. p.now) l.picked.items) l.next (into_iter_items l.at-iterator)
    × AreTakenSoFar l.fn.positions.items (values_of l.fn.policies.entries) (map (λ p. p.now) l.picked.items) (into_iter_items l.at-iterator)
