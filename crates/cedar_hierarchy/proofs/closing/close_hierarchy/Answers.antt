use Rattle.std.proofs.Common.{refl}
use Rattle.cedar_layers.specs.Stores.{stored_entity}
use Rattle.cedar_hierarchy.specs.Ancestry.{parents_of}
use Rattle.cedar_hierarchy.proofs.Closures.{has_alike, has_ancestors, has_no_cycle}
use Rattle.cedar_hierarchy.proofs.closing.close_hierarchy.Goals as goal

pub returns-clause-entities : goal.returns-clause-entities
returns-clause-entities c =
    has_alike (parents_of c.args.entities.items) c.args.entities.items c.in_ok-each.each.items (stored_entity c.in_ok-with.field-0) refl c.in_ok-each.ensures.each c.in_ok-with.ensures.whole

pub returns-clause-ancestors : goal.returns-clause-ancestors
returns-clause-ancestors c =
    has_ancestors (parents_of c.args.entities.items) c.args.entities.items c.in_ok-each.each.items (stored_entity c.in_ok-with.field-0) refl c.in_ok-each.ensures.each c.in_ok-with.ensures.whole

pub returns-clause-acyclic : goal.returns-clause-acyclic
returns-clause-acyclic c =
    has_no_cycle (parents_of c.args.entities.items) c.args.entities.items c.in_ok-each.each.items (stored_entity c.in_ok-with.field-0) refl c.in_ok-each.ensures.each c.in_ok-with.ensures.whole
