use Rattle.std.proofs.Common.{◌≡◌, length}
use Rattle.std.specs.List.{find}
use Rattle.cedar_extensions.specs.Extension.{all_functions}
use Rattle.cedar_extensions.specs.Refused.{makes_standard}
use Rattle.cedar_extensions.proofs.checks.making_standard_function.Given as goal

abbrev pub invariant-extensions : goal.invariant-extensions
invariant-extensions g l = find makes_standard (all_functions l.fn.extensions) ≡ find makes_standard (all_functions l.rest)

abbrev pub decreases-extensions : goal.decreases-extensions
decreases-extensions g l = length l.rest
