use Rattle.std.proofs.Common.{◌≡◌, length}
use Rattle.std.specs.List.{find}
use Rattle.cedar_extensions.specs.Extension.{functions_of}
use Rattle.cedar_extensions.specs.Refused.{has_standard_name}
use Rattle.cedar_extensions.proofs.extension.Extension.with_standard_name.Given as goal

abbrev pub invariant-functions : goal.invariant-functions
invariant-functions g l = find has_standard_name (functions_of l.self) ≡ find has_standard_name l.rest

abbrev pub decreases-functions : goal.decreases-functions
decreases-functions g l = length l.rest
