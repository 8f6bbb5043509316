use Rattle.std.proofs.Common.{◌≡◌, ◌+◌, ◌*◌, max, drop}
use Rattle.cedar_model.specs.Agreement.{greatest_height, greatest_height_at}
use Rattle.cedar_expressions.specs.declared.expr.Expr.{size-Expr}
use Rattle.cedar_expressions.specs.View.{terms_view, fields_view}
use Rattle.cedar_heights.specs.Capped.{capped}
use Rattle.cedar_heights.proofs.expressions.+height.Given as goal

-- what is found and what is left are together as high as all
abbrev pub invariant-highest-parts : goal.invariant-highest-parts
invariant-highest-parts l =
    max (capped (greatest_height (terms_view (drop l.part-index l.part-items)))) l.found
    ≡ capped (greatest_height (terms_view l.parts.items))

abbrev pub invariant-highest_at-parts : goal.invariant-highest_at-parts
invariant-highest_at-parts l =
    max (capped (greatest_height_at (fields_view l.part-iterator))) l.found
    ≡ capped (greatest_height_at (fields_view l.parts.entries))

-- an expression is larger than its parts, and what goes through several parts stands above what goes through one
abbrev pub decreases-expr_height : goal.decreases-expr_height
decreases-expr_height l = 5 * size-Expr l.expr.now

abbrev pub decreases-higher : goal.decreases-higher
decreases-higher l = 5 * max (size-Expr l.first.now) (size-Expr l.second.now) + 2

abbrev pub decreases-highest_of_three : goal.decreases-highest_of_three
decreases-highest_of_three l =
    5 * max (size-Expr l.first.now) (max (size-Expr l.second.now) (size-Expr l.third.now)) + 3

abbrev pub decreases-highest : goal.decreases-highest
decreases-highest l = 5 * goal.size-highest l + 3

abbrev pub decreases-highest_at : goal.decreases-highest_at
decreases-highest_at l = 5 * goal.size-highest_at l + 3
