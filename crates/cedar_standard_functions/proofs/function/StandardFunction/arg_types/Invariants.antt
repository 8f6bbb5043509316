use Rattle.std.proofs.Common.{◌≡◌, ◌++◌, length, map}
use Rattle.cedar_names.specs.Leaves.{type_view}
use Rattle.cedar_standard_functions.specs.Kinds.{kind_type}
use Rattle.cedar_standard_functions.specs.Standard.{takes}
use Rattle.cedar_standard_functions.proofs.function.StandardFunction.arg_types.Given as goal

abbrev pub invariant-kinds : goal.invariant-kinds
invariant-kinds l = map type_view l.types.items ++ map kind_type l.rest ≡ takes l.fn.self

abbrev pub decreases-kinds : goal.decreases-kinds
decreases-kinds l = length l.rest
