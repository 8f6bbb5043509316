use Rattle.std.proofs.Common.{◌≡◌, length}
use Rattle.cedar_extensions.specs.Iterators.{overloading_left}
use Rattle.cedar_extensions.proofs.iterators.OverloadingTypesIterator.next.Given as goal

abbrev pub invariant-extensions : goal.invariant-extensions
invariant-extensions g l = overloading_left l.fn.self ≡ overloading_left l.self

abbrev pub decreases-extensions : goal.decreases-extensions
decreases-extensions g l = length l.self.extensions.now
