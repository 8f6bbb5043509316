use Rattle.std.proofs.Common.{ap, ◌∙◌}
use Rattle.cedar_hierarchy.specs.Listed.{names_or_none}
use Rattle.cedar_hierarchy.proofs.Listing.{listed-by_name}
use Rattle.cedar_hierarchy.proofs.parents.parents_in.Goals as goal

pub returns : goal.returns
returns c = ap names_or_none c.get.ensures.value ∙ listed-by_name c.args.uid.now c.args.parents.now.entries
