use Rattle.std.proofs.Common.{◌≡◌, ◌+◌, ◌*◌, ◌≤◌, max, drop}
use Rattle.cedar_model.specs.Agreement.{greatest_height, greatest_height_at}
use Rattle.cedar_model.specs.Sets.{represented_size, represented_values_size, represented_fields_size}
use Rattle.cedar_model.specs.Sets.{represented_values_of}
use Rattle.cedar_model.specs.Values.{expressions_of, expressions_at}
use Rattle.cedar_values.specs.Kinds.{kind_what}
use Rattle.cedar_values.specs.Sound.{whats, whats_at}
use Rattle.cedar_heights.specs.Capped.{capped}
use Rattle.cedar_heights.proofs.values.+height.Given as goal

-- what is found and what is left are together as high as all
abbrev pub invariant-highest_value-values : goal.invariant-highest_value-values
invariant-highest_value-values l =
    max (capped (greatest_height (expressions_of (represented_values_of (whats (drop l.value-index l.values))))))
    l.found ≡ capped (greatest_height (expressions_of (represented_values_of (whats l.values))))

-- and what is left is no larger
abbrev pub invariant-highest_value_at-pairs : goal.invariant-highest_value_at-pairs
invariant-highest_value_at-pairs l =
    record {
      same : max (capped (greatest_height_at (expressions_at (whats_at l.value-iterator)))) l.found
          ≡ capped (greatest_height_at (expressions_at (whats_at l.pairs.entries)));
      smaller : represented_fields_size (whats_at l.value-iterator)
          ≤ represented_fields_size (whats_at l.pairs.entries);
    }

-- a value is larger than its parts
abbrev pub decreases-value_height : goal.decreases-value_height
decreases-value_height l = 3 * represented_size l.value.now.what + 1

abbrev pub decreases-kind_height : goal.decreases-kind_height
decreases-kind_height l = 3 * represented_size (kind_what l.kind.now)

abbrev pub decreases-highest_value : goal.decreases-highest_value
decreases-highest_value l = 3 * represented_values_size (represented_values_of (whats l.values.now))

abbrev pub decreases-highest_value_at : goal.decreases-highest_value_at
decreases-highest_value_at l = 3 * represented_fields_size (whats_at l.pairs.now.entries)
