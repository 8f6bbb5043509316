use Rattle.std.proofs.Common.{◌≡◌}
use Rattle.std.specs.Vec.Iter.{into_iter_items}
use Rattle.cedar_hierarchy.specs.Sorting.{named_in, wholes, names_of_others}
use Rattle.cedar_hierarchy.proofs.Marking.{none-named}
use Rattle.cedar_hierarchy.proofs.partial.sort_out_open.Goals as goal

pub entities-init : goal.entities-init
entities-init c =
    let there = named_in c.args.uids.now.keys in
    let all : into_iter_items c.into_iter-entity-iterator.result ≡ c.args.each.items = c.into_iter-entity-iterator.ensures.into_iter_gives.0 in
    record {
      whole = λ i. wholes there (c.new-whole.ensures.items i) (all i);
      left = λ i. names_of_others there (none-named c.new-left_out.result.keys c.new-left_out.ensures.empty i) (all i);
    }
