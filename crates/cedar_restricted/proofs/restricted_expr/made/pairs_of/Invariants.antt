use Rattle.std.proofs.Common.{◌≡◌, ◌++◌}
use Rattle.std.specs.Vec.Iter.{into_iter_items}
use Rattle.cedar_restricted.specs.Views.{pairs_in}
use Rattle.cedar_restricted.proofs.restricted_expr.made.pairs_of.Given as goal

-- what was taken, and then what is left, is all
abbrev pub invariant-pairs : goal.invariant-pairs
invariant-pairs l = l.exprs.items ++ pairs_in (into_iter_items l.key-iterator) ≡ pairs_in l.fn.pairs.items
