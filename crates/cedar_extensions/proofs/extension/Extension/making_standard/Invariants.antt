use Rattle.std.proofs.Common.{◌≡◌, length}
use Rattle.std.specs.List.{find}
use Rattle.cedar_extensions.specs.Extension.{functions_of}
use Rattle.cedar_extensions.specs.Refused.{makes_standard}
use Rattle.cedar_extensions.proofs.extension.Extension.making_standard.Given as goal

abbrev pub invariant-functions : goal.invariant-functions
invariant-functions g l = find makes_standard (functions_of l.self) ≡ find makes_standard l.rest

abbrev pub decreases-functions : goal.decreases-functions
decreases-functions g l = length l.rest
