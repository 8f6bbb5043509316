use Rattle.std.proofs.Common.{◌≡◌}
use Rattle.std.specs.Vec.Iter.{into_iter_items}
use Rattle.cedar_expressions.specs.View.{fields_view}
use Rattle.cedar_expressions.specs.Nodes.{with_entries, entries_in_order}
use Rattle.cedar_model.specs.Refusals.{first_repeated, first_repeated_after}
use Rattle.cedar_expressions.specs.Records.{fields_in_order, pairs_view, keys_view}
use Rattle.cedar_expressions.proofs.expr.Expr.record.Given as goal

-- what is left, put after what was put, is all, and no key was a duplicate yet
abbrev pub invariant-pairs : goal.invariant-pairs
invariant-pairs l = record {
  entries : with_entries l.fields.entries (into_iter_items l.key-iterator) ≡ entries_in_order l.fn.pairs.items;
  fields : fields_view (with_entries l.fields.entries (into_iter_items l.key-iterator)) ≡ fields_in_order (pairs_view l.fn.pairs.items);
  keys : first_repeated_after (keys_view l.fields.entries) (keys_view (into_iter_items l.key-iterator))
      ≡ first_repeated (keys_view l.fn.pairs.items);
}
