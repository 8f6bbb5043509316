use Rattle.std.proofs.Common.{◌≡◌}
use Rattle.std.specs.Vec.Iter.{into_iter_items}
use Rattle.cedar_layers.specs.Stores.{standing, standing_with_each, last_of_each_name}
use Rattle.cedar_layers.proofs.policies.entities.Entities.layer_of.Given as goal

abbrev pub invariant-put : goal.invariant-put
invariant-put l = standing_with_each (standing l.held.entries) (into_iter_items l.entity-iterator) ≡ last_of_each_name l.fn.entities.items
