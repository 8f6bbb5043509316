use Rattle.std.proofs.Common.{◌≡◌, List, ◌++◌, take, map}
use Rattle.cedar_model.specs.Values.{expressions_at}
use Rattle.cedar_expressions.specs.View.{view, fields_view}
use Rattle.cedar_values.specs.Sound.{whats_at}
use Rattle.cedar_values.proofs.Written.{Entry, written}
use Rattle.cedar_values.proofs.value.written.+written.Given as goal

abbrev pub invariant-exprs_of-elements : goal.invariant-exprs_of-elements
invariant-exprs_of-elements l = map view l.exprs.items ≡ written (take l.element-index l.elements)

abbrev pub invariant-exprs_of_entries-entries : goal.invariant-exprs_of_entries-entries
invariant-exprs_of_entries-entries l =
    (done : List Entry) × (l.pairs.entries ≡ done ++ l.key-iterator) × (fields_view l.exprs.entries ≡ expressions_at (whats_at done))
