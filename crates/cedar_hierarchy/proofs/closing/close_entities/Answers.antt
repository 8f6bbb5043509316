use Rattle.cedar_hierarchy.specs.Listed.{listed_parents}
use Rattle.cedar_hierarchy.proofs.Closures.{closed_by_own}
use Rattle.cedar_hierarchy.proofs.closing.close_entities.Goals as goal

pub returns-clause-each : goal.returns-clause-each
returns-clause-each c =
    closed_by_own (listed_parents c.in_ok-parents.parents.entries) c.args.entities.items c.close_each.result c.in_ok-parents.ensures c.close_each.ensures.ok
