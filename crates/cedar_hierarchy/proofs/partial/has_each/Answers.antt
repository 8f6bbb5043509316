use Rattle.cedar_hierarchy.proofs.Sorted.{subset_named}
use Rattle.cedar_hierarchy.proofs.partial.has_each.Goals as goal

pub returns : goal.returns
returns c = subset_named c.args.others.now.keys c.args.uids.now.keys c.is_subset.result c.is_subset.ensures
