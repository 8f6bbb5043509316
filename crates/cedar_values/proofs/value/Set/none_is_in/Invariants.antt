use Rattle.std.proofs.Common.{◌≡◌, drop, not}
use Rattle.cedar_model.specs.Values.{abstract_values}
use Rattle.cedar_model.specs.Sets.{represented_values_of}
use Rattle.cedar_model.specs.Meaning.{has_some}
use Rattle.cedar_values.specs.Sound.{whats}
use Rattle.cedar_values.proofs.value.Set.none_is_in.Given as goal

abbrev pub invariant-elements : goal.invariant-elements
invariant-elements l =
    not (has_some (abstract_values (represented_values_of (whats (drop l.element-index l.element-items)))) (abstract_values l.other.all)) ≡ not (has_some (abstract_values l.self.all) (abstract_values l.other.all))
