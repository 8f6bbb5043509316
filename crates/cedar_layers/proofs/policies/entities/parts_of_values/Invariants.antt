use Rattle.std.proofs.Common.{◌≡◌, List, ◌++◌}
use Rattle.cedar_values.proofs.Written.{Entry}
use Rattle.cedar_layers.specs.Parts.{values_as_parts}
use Rattle.cedar_layers.proofs.policies.entities.parts_of_values.Given as goal

abbrev pub invariant-values : goal.invariant-values
invariant-values l =
    (done : List Entry) × (l.fn.values.entries ≡ done ++ l.name-iterator) × (l.parts.entries ≡ values_as_parts done)
