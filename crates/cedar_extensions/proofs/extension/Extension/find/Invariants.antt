use Rattle.std.proofs.Common.{◌≡◌, length}
use Rattle.cedar_names.specs.Names.{name_text}
use Rattle.cedar_extensions.specs.Extension.{functions_of}
use Rattle.cedar_extensions.specs.Functions.{function_among}
use Rattle.cedar_extensions.proofs.extension.Extension.find.Given as goal

abbrev pub invariant-functions : goal.invariant-functions
invariant-functions g l =
    function_among (name_text l.name) (functions_of l.self) ≡ function_among (name_text l.name) l.rest

abbrev pub decreases-functions : goal.decreases-functions
decreases-functions g l = length l.rest
