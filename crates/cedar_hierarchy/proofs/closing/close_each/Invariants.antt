use Rattle.std.proofs.Common.{List, ◌++◌}
use Rattle.std.specs.List.{AllZip}
use Rattle.std.specs.Vec.Iter.{into_iter_items}
use Rattle.cedar_layers.specs.declared.policies.entities.Entity.{Entity}
use Rattle.cedar_hierarchy.specs.Ancestry.{IsClosed}
use Rattle.cedar_hierarchy.specs.Listed.{listed_parents, KnowsAncestors}
use Rattle.cedar_hierarchy.proofs.closing.close_each.Given as goal

abbrev pub invariant-entities : goal.invariant-entities
invariant-entities l = record {
  known : KnowsAncestors (listed_parents l.parents.entries) l.known.entries;
  closed : (others : List Entity) → AllZip (IsClosed (listed_parents l.parents.entries)) (into_iter_items l.entity-iterator) others → AllZip (IsClosed (listed_parents l.parents.entries)) l.fn.entities.items (l.each.items ++ others);
}
