use Rattle.cedar_hierarchy.specs.Listed.{listed_parents}
use Rattle.cedar_hierarchy.proofs.Knowing.{knows_nothing}
use Rattle.cedar_hierarchy.proofs.ancestry.ancestors_of_each.Goals as goal

pub uids-init : goal.uids-init
uids-init c = knows_nothing (listed_parents c.args.parents.now.entries) c.new-known.result.entries c.new-known.ensures.empty
