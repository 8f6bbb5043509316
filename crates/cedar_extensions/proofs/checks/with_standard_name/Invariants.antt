use Rattle.std.proofs.Common.{◌≡◌, length}
use Rattle.std.specs.List.{find}
use Rattle.cedar_extensions.specs.Extension.{all_functions}
use Rattle.cedar_extensions.specs.Refused.{has_standard_name}
use Rattle.cedar_extensions.proofs.checks.with_standard_name.Given as goal

abbrev pub invariant-extensions : goal.invariant-extensions
invariant-extensions g l = find has_standard_name (all_functions l.fn.extensions) ≡ find has_standard_name (all_functions l.rest)

abbrev pub decreases-extensions : goal.decreases-extensions
decreases-extensions g l = length l.rest
