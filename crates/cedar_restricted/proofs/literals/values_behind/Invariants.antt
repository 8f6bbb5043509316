use Rattle.std.proofs.Common.{◌≡◌, ◌++◌, List, length}
use Rattle.cedar_values.specs.Sound.{Placed}
use Rattle.cedar_restricted.specs.Literals.{AreOfLiterals}
use Rattle.cedar_restricted.proofs.literals.values_behind.Given as goal

abbrev pub invariant-literals : goal.invariant-literals
invariant-literals l =
    (vs : List Placed) × (l.values.items ≡ l.fn.values.items ++ vs) × AreOfLiterals l.parts vs × (l.part-index ≡ length vs)
