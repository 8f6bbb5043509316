use Rattle.std.proofs.Common.{◌≡◌, []}
use Rattle.std.specs.Vec.Iter.{into_iter_items}
use Rattle.cedar_hierarchy.specs.Sorting.{named_in, no_name, wholes, names_of_others}
use Rattle.cedar_hierarchy.proofs.partial.sort_out_open.Given as goal

abbrev pub invariant-entities : goal.invariant-entities
invariant-entities l = record {
  whole : wholes (named_in l.uids.keys) l.whole.items (into_iter_items l.entity-iterator) ≡ wholes (named_in l.uids.keys) [] l.fn.each.items;
  left : names_of_others (named_in l.uids.keys) (named_in l.left_out.keys) (into_iter_items l.entity-iterator) ≡ names_of_others (named_in l.uids.keys) no_name l.fn.each.items;
}
