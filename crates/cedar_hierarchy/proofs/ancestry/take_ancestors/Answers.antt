use Rattle.std.proofs.Common.{Some, None}
use Rattle.cedar_hierarchy.specs.Listed.{listed_parents}
use Rattle.cedar_hierarchy.proofs.Knowing.{known_then, known_of}
use Rattle.cedar_hierarchy.proofs.ancestry.take_ancestors.Goals as goal

pub returns-in-Some-clause-known : goal.returns-in-Some-clause-known
returns-in-Some-clause-known c =
    known_then (listed_parents c.args.parents.now.entries) c.args.known.now.entries c.remove.new.self.entries c.args.uid.now None c.in-Some.ensures.updates.1 c.in-Some.ensures.updates.3 tt c.requires

pub returns-in-Some-clause-led : goal.returns-in-Some-clause-led
returns-in-Some-clause-led c =
    known_of (listed_parents c.args.parents.now.entries) c.args.known.now.entries c.args.uid.now (Some c.in-Some.ancestors) c.requires c.in-Some.ensures.value
