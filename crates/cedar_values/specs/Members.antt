-- How many elements a set has, and what a walk over it yields.
use Rattle.std.specs.Prelude.{◌≡◌, ℕ, ◌+◌, ◌^◌, ◌<◌, length}
use Rattle.std.specs.declared.slice.Iter.{Iter}
use Rattle.std.specs.Slice.Iter.{iter_rest}
use Rattle.std.specs.Iterator.Adapters.{IterYieldsInOrder}
use Rattle.cedar_model.specs.Sets.{represented_values_of}
use Rattle.cedar_values.specs.Sound.{Placed, Elements, whats}
use Rattle.cedar_model.specs.Values.{RepresentedValues, no_represented, one_represented}

-- how many values there are
abbrev pub values_count : RepresentedValues → ℕ
values_count no_represented = 0
values_count (one_represented v vs) = values_count vs + 1

-- a walk over a set: its elements, in order, each once
abbrev pub WalksOver : Elements → Iter Placed → Type 0
WalksOver s it =
    (represented_values_of (whats (iter_rest it)) ≡ s.all) × (iter_rest it ≡ s.members) × (length (iter_rest it) < 2 ^ 64) × IterYieldsInOrder Placed
