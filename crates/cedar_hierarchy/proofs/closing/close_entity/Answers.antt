use Rattle.std.proofs.Common.{◌∙◌}
use Rattle.cedar_hierarchy.specs.Ancestry.{KeepsParts}
use Rattle.cedar_hierarchy.specs.Listed.{listed_parents}
use Rattle.cedar_hierarchy.proofs.Closures.{cycle_found, is_closed}
use Rattle.cedar_hierarchy.proofs.closing.close_entity.Goals as goal

pub returns-then-contains-clause-cycle : goal.returns-then-contains-clause-cycle
returns-then-contains-clause-cycle c =
    cycle_found (listed_parents c.args.parents.now.entries) c.args.entity.uid c.uid.result.now c.uid-2.result.now c.in_ok-copy_uid.field-0 c.in_ok-ancestors.ancestors.keys c.contains.result c.uid.ensures.name c.uid-2.ensures.name (c.in_ok-copy_uid.ensures ∙ c.uid-then-contains.ensures.name) c.in_ok-ancestors.ensures.led c.contains.ensures c.if-contains.true

pub returns-clause-ok : goal.returns-clause-ok
returns-clause-ok c =
    let parts : KeepsParts c.args.entity c.with_ancestors.result = record {
      uid = c.with_ancestors.ensures.uid;
      attributes = c.with_ancestors.ensures.attributes;
      tags = c.with_ancestors.ensures.tags;
    } in
    is_closed (listed_parents c.args.parents.now.entries) c.args.entity c.with_ancestors.result c.uid.result.now c.uid-2.result.now c.in_ok-ancestors.ancestors.keys c.contains.result c.uid.ensures.name c.uid-2.ensures.name c.in_ok-ancestors.ensures.led c.contains.ensures c.if-contains.false parts c.with_ancestors.ensures.ancestors
