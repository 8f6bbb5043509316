use Rattle.std.proofs.Common.{◌≡◌, ◌+◌, ◌*◌, ◌++◌, ◌≤◌, drop}
use Rattle.cedar_model.specs.Sets.{represented_size, represented_values_size, represented_fields_size}
use Rattle.cedar_model.specs.Sets.{represented_values_of}
use Rattle.cedar_values.specs.Kinds.{kind_what}
use Rattle.cedar_values.specs.Sound.{whats, whats_at}
use Rattle.cedar_lints.specs.Paths.{alike_each, alike_at, names_seen, paths_view}
use Rattle.cedar_lints.proofs.paths.+walk.Given as goal

-- the path stays, and what is found and what is left are all of it
abbrev pub invariant-push_paths_of_each-values : goal.invariant-push_paths_of_each-values
invariant-push_paths_of_each-values l =
    record {
      stays : l.path.items ≡ l.initial.path.items;
      same : paths_view l.found.items ++ alike_each (names_seen l.initial.path.items)
          (represented_values_of (whats (drop l.value-index l.values)))
          ≡ paths_view l.initial.found.items ++ alike_each (names_seen l.initial.path.items)
          (represented_values_of (whats l.values));
    }

-- and what is left is no larger
abbrev pub invariant-push_paths_at-pairs : goal.invariant-push_paths_at-pairs
invariant-push_paths_at-pairs l =
    record {
      stays : l.path.items ≡ l.initial.path.items;
      same : paths_view l.found.items ++ alike_at (names_seen l.initial.path.items) (whats_at l.name-iterator)
          ≡ paths_view l.initial.found.items ++ alike_at (names_seen l.initial.path.items) (whats_at l.pairs.entries);
      smaller : represented_fields_size (whats_at l.name-iterator) ≤ represented_fields_size (whats_at l.pairs.entries);
    }

-- a value is larger than its parts
abbrev pub decreases-push_paths : goal.decreases-push_paths
decreases-push_paths l = 4 * represented_size l.value.now.what + 1

abbrev pub decreases-push_paths_of_kind : goal.decreases-push_paths_of_kind
decreases-push_paths_of_kind l = 4 * represented_size (kind_what l.kind.now)

abbrev pub decreases-push_paths_of_each : goal.decreases-push_paths_of_each
decreases-push_paths_of_each l = 4 * represented_values_size (represented_values_of (whats l.values.now))

abbrev pub decreases-push_paths_of_record : goal.decreases-push_paths_of_record
decreases-push_paths_of_record l = 4 * represented_fields_size (whats_at l.pairs.now.entries) + 1

abbrev pub decreases-push_paths_at : goal.decreases-push_paths_at
decreases-push_paths_at l = 4 * represented_fields_size (whats_at l.pairs.now.entries)

abbrev pub decreases-push_paths_under : goal.decreases-push_paths_under
decreases-push_paths_under l = 4 * represented_size l.value.now.what + 2
