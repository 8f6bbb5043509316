use Rattle.std.proofs.Common.{refl}
use Rattle.cedar_layers.specs.Stores.{stored_entity, last_of_each_name}
use Rattle.cedar_hierarchy.specs.Listed.{listed_parents}
use Rattle.cedar_hierarchy.specs.Sorting.{named_in}
use Rattle.cedar_hierarchy.proofs.Closures.{has_no_cycle}
use Rattle.cedar_hierarchy.proofs.Sorted.{is_kept_or_left, records_each, is_left_exactly}
use Rattle.cedar_hierarchy.proofs.partial.close_hierarchy_partially.Goals as goal

pub returns-clause-entities : goal.returns-clause-entities
returns-clause-entities c =
    let made = c.in_ok-sort_out_open.field-0 in
    is_kept_or_left (listed_parents c.in_ok-parents.parents.entries) (named_in c.in_ok-uids.uids.keys) c.args.entities.items c.in_ok-each.each.items (stored_entity made.entities) (named_in made.left_out.keys) c.in_ok-parents.ensures c.in_ok-uids.ensures c.in_ok-each.ensures.ok c.in_ok-sort_out_open.ensures.entities c.in_ok-sort_out_open.ensures.left_out

pub returns-clause-ancestors : goal.returns-clause-ancestors
returns-clause-ancestors c =
    let made = c.in_ok-sort_out_open.field-0 in
    records_each (listed_parents c.in_ok-parents.parents.entries) (named_in c.in_ok-uids.uids.keys) c.args.entities.items c.in_ok-each.each.items (stored_entity made.entities) (named_in made.left_out.keys) c.in_ok-parents.ensures c.in_ok-uids.ensures c.in_ok-each.ensures.ok c.in_ok-sort_out_open.ensures.entities c.in_ok-sort_out_open.ensures.left_out

pub returns-clause-left_out : goal.returns-clause-left_out
returns-clause-left_out c =
    let made = c.in_ok-sort_out_open.field-0 in
    is_left_exactly (listed_parents c.in_ok-parents.parents.entries) (named_in c.in_ok-uids.uids.keys) c.args.entities.items c.in_ok-each.each.items (stored_entity made.entities) (named_in made.left_out.keys) c.in_ok-parents.ensures c.in_ok-uids.ensures c.in_ok-each.ensures.ok c.in_ok-sort_out_open.ensures.entities c.in_ok-sort_out_open.ensures.left_out

pub returns-clause-acyclic : goal.returns-clause-acyclic
returns-clause-acyclic c =
    has_no_cycle (listed_parents c.in_ok-parents.parents.entries) c.args.entities.items c.in_ok-each.each.items (last_of_each_name c.in_ok-each.each.items) c.in_ok-parents.ensures c.in_ok-each.ensures.ok refl
