use Rattle.std.proofs.Common.{◌≡◌, ◌<◌, length, arith}
use Rattle.cedar_names.specs.Names.{uid_name}
use Rattle.cedar_hierarchy.specs.Listed.{listed_parents}
use Rattle.cedar_hierarchy.proofs.Knowing.{known_of_parent}
use Rattle.cedar_hierarchy.proofs.ancestry.known_of_a_parent.Goals as goal

pub returns-then-index-len : goal.returns-then-index-len
returns-then-index-len c =
    let own = c.in-Some.own.now.items in
    let long : c.in-Some.own.now.len ≡ length own = c.in-Some.own.now.ok.0 in
    let within : c.position_with_most-index.result < length own = omega arith in
    known_of_parent (listed_parents c.args.parents.now.entries) (uid_name c.args.uid.now) own c.position_with_most-index.result c.index.result.now c.args.known.now.entries _ c.in-Some.ensures within c.index.ensures c.requires c.get.ensures.value
