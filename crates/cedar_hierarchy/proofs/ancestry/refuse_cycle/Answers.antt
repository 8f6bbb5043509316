use Rattle.std.proofs.Common.{refl}
use Rattle.cedar_hierarchy.specs.Listed.{listed_parents}
use Rattle.cedar_hierarchy.proofs.Closures.{cycle_found}
use Rattle.cedar_hierarchy.proofs.ancestry.refuse_cycle.Goals as goal

pub returns-then-contains : goal.returns-then-contains
returns-then-contains c = record {
  cycle = cycle_found (listed_parents c.args.parents.now.entries) c.args.uid c.args.uid c.args.uid c.args.uid c.in_ok-reached.reached.keys c.contains.result refl refl refl c.in_ok-reached.ensures c.contains.ensures c.if-contains.true;
}
