use Rattle.std.proofs.Common.{Some}
use Rattle.cedar_hierarchy.specs.Listed.{listed_parents}
use Rattle.cedar_hierarchy.proofs.Knowing.{known_then}
use Rattle.cedar_hierarchy.proofs.ancestry.note.Goals as goal

pub returns : goal.returns
returns c =
    known_then (listed_parents c.args.parents.now.entries) c.args.known.now.entries c.insert.new.self.entries c.args.uid (Some c.in_ok-ancestors.ancestors) c.in_ok-insert.ensures.updates.1 c.in_ok-insert.ensures.updates.3 c.in_ok-ancestors.ensures c.requires
