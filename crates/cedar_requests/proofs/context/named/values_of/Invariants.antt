use Rattle.std.proofs.Common.{◌≡◌}
use Rattle.std.specs.Vec.Iter.{into_iter_items}
use Rattle.cedar_model.specs.Refusals.{first_repeated, first_repeated_after}
use Rattle.cedar_values.specs.Sound.{whats_at}
use Rattle.cedar_requests.specs.Named.{names_given, entry_names, put_values, values_in_order}
use Rattle.cedar_requests.proofs.context.named.values_of.Given as goal

-- what is left, put after what was put, is all, and no name was a duplicate yet
abbrev pub invariant-pairs : goal.invariant-pairs
invariant-pairs l = record {
  values : put_values (whats_at l.values.entries) (into_iter_items l.name-iterator) ≡ values_in_order l.fn.pairs.items;
  names : first_repeated_after (entry_names l.values.entries) (names_given (into_iter_items l.name-iterator))
      ≡ first_repeated (names_given l.fn.pairs.items);
}
