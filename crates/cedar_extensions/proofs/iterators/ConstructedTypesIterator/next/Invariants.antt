use Rattle.std.proofs.Common.{◌≡◌, length}
use Rattle.cedar_extensions.specs.Iterators.{constructed_left, functions_left}
use Rattle.cedar_extensions.proofs.iterators.ConstructedTypesIterator.next.Given as goal

abbrev pub invariant-functions : goal.invariant-functions
invariant-functions g l = constructed_left l.fn.self ≡ constructed_left l.self

abbrev pub decreases-functions : goal.decreases-functions
decreases-functions g l = length (functions_left l.self.functions)
