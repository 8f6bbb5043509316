use Rattle.std.proofs.Common.{◌≡◌, length}
use Rattle.std.specs.List.{find}
use Rattle.cedar_extensions.specs.Extension.{all_overloading_types}
use Rattle.cedar_extensions.specs.Refused.{is_standard}
use Rattle.cedar_extensions.proofs.checks.overloading_standard.Given as goal

abbrev pub invariant-extensions : goal.invariant-extensions
invariant-extensions g l = find is_standard (all_overloading_types l.fn.extensions) ≡ find is_standard (all_overloading_types l.rest)

abbrev pub decreases-extensions : goal.decreases-extensions
decreases-extensions g l = length l.rest
