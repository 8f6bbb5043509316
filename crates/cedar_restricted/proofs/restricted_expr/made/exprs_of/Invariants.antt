use Rattle.std.proofs.Common.{◌≡◌, ◌++◌}
use Rattle.std.specs.Vec.Iter.{into_iter_items}
use Rattle.cedar_restricted.specs.Views.{exprs_in}
use Rattle.cedar_restricted.proofs.restricted_expr.made.exprs_of.Given as goal

-- what was taken, and then what is left, is all
abbrev pub invariant-parts : goal.invariant-parts
invariant-parts l = l.exprs.items ++ exprs_in (into_iter_items l.part-iterator) ≡ exprs_in l.fn.parts.items
