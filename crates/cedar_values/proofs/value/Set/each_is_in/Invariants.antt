use Rattle.std.proofs.Common.{◌≡◌, drop}
use Rattle.cedar_model.specs.Values.{abstract_values}
use Rattle.cedar_model.specs.Sets.{represented_values_of}
use Rattle.cedar_model.specs.Meaning.{has_each}
use Rattle.cedar_values.specs.Sound.{whats}
use Rattle.cedar_values.proofs.value.Set.each_is_in.Given as goal

abbrev pub invariant-elements : goal.invariant-elements
invariant-elements l =
    has_each (abstract_values (represented_values_of (whats (drop l.element-index l.element-items)))) (abstract_values l.other.all) ≡ has_each (abstract_values l.self.all) (abstract_values l.other.all)
