use Rattle.std.proofs.Common.{List, ◌++◌}
use Rattle.std.specs.List.{AllZip}
use Rattle.std.specs.Vec.Iter.{into_iter_items}
use Rattle.cedar_layers.specs.declared.policies.entities.Entity.{Entity}
use Rattle.cedar_layers.specs.Stores.{stored_entity}
use Rattle.cedar_overlay.specs.Adding.{IsWidened}
use Rattle.cedar_overlay.proofs.entities.widened_each.Given as goal

abbrev pub invariant-entities : goal.invariant-entities
invariant-entities l =
    (others : List Entity) → AllZip (IsWidened (stored_entity l.entities)) (into_iter_items l.entity-iterator) others
    → AllZip (IsWidened (stored_entity l.entities)) l.fn.closed.items (l.each.items ++ others)
