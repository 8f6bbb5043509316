use Rattle.std.proofs.Common.{◌≡◌, length}
use Rattle.cedar_extensions.specs.Iterators.{functions_left}
use Rattle.cedar_extensions.proofs.iterators.FunctionsIterator.next.Given as goal

abbrev pub invariant-extensions : goal.invariant-extensions
invariant-extensions g l = functions_left l.fn.self ≡ functions_left l.self

abbrev pub decreases-extensions : goal.decreases-extensions
decreases-extensions g l = length l.self.extensions.now
