use Rattle.std.proofs.Common.{◌∙◌, ap, map}
use Rattle.cedar_names.specs.Names.{uid_name}
use Rattle.cedar_hierarchy.proofs.Listing.{listed_parents-put}
use Rattle.cedar_hierarchy.proofs.parents.put.Goals as goal

pub returns : goal.returns
returns c =
    listed_parents-put c.args.parents.now.entries c.insert.new.self.entries c.in_ok-uid.uid c.in_ok-own.own c.in_ok-insert.ensures.updates.1 c.in_ok-insert.ensures.updates.3 c.args.entity.now (c.in_ok-uid.ensures ∙ c.uid.ensures.name) (c.in_ok-own.ensures ∙ ap (map uid_name) c.ancestors.ensures.whole)
