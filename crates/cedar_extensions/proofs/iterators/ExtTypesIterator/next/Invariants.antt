use Rattle.std.proofs.Common.{◌≡◌, length}
use Rattle.cedar_extensions.specs.Iterators.{types_left, functions_left}
use Rattle.cedar_extensions.proofs.iterators.ExtTypesIterator.next.Given as goal

abbrev pub invariant-functions : goal.invariant-functions
invariant-functions g l = types_left l.fn.self ≡ types_left l.self

abbrev pub decreases-functions : goal.decreases-functions
decreases-functions g l = length (functions_left l.self.functions)
