use Rattle.std.proofs.Common.{◌≡◌, ◌+◌, ◌*◌, ◌++◌, max, take, map}
use Rattle.cedar_model.specs.Chains.{substituted_at}
use Rattle.cedar_expressions.specs.declared.expr.Expr.{size-Expr}
use Rattle.cedar_expressions.specs.Mappings.{mapping_of}
use Rattle.cedar_expressions.specs.View.{view, fields_view}
use Rattle.cedar_expressions.proofs.Records.{Pairs}
use Rattle.cedar_expressions.proofs.Substitution.{replaced}
use Rattle.cedar_expressions.proofs.expr.+substitute.Given as goal

-- the new parts are those seen so far, with the map's values
abbrev pub invariant-Expr::substitute_each-parts : goal.invariant-Expr::substitute_each-parts
invariant-Expr::substitute_each-parts g l =
    map view l.new_parts.items ≡ replaced (mapping_of g.V.AsExpression.represents l.map.entries) (take l.part-index l.parts.items)

abbrev pub invariant-Expr::substitute_at-pairs : goal.invariant-Expr::substitute_at-pairs
invariant-Expr::substitute_at-pairs g l =
    (done : Pairs) × (l.pairs.entries ≡ done ++ l.key-iterator) × (fields_view l.new_pairs.entries ≡ substituted_at (mapping_of g.V.AsExpression.represents l.map.entries) (fields_view done))

-- an expression is larger than its parts; what shares a part or goes over parts stands above what replaces one, and what makes a kind above these
abbrev pub decreases-Expr::substitute : goal.decreases-Expr::substitute
decreases-Expr::substitute g l = 3 * goal.size-Expr::substitute g l

abbrev pub decreases-ExprKind::substitute : goal.decreases-ExprKind::substitute
decreases-ExprKind::substitute g l = 3 * goal.size-ExprKind::substitute g l

abbrev pub decreases-Expr::substitute_shared : goal.decreases-Expr::substitute_shared
decreases-Expr::substitute_shared g l = 3 * goal.size-Expr::substitute_shared g l + 1

abbrev pub decreases-Expr::substitute_each : goal.decreases-Expr::substitute_each
decreases-Expr::substitute_each g l = 3 * goal.size-Expr::substitute_each g l + 1

abbrev pub decreases-Expr::substitute_at : goal.decreases-Expr::substitute_at
decreases-Expr::substitute_at g l = 3 * goal.size-Expr::substitute_at g l + 1

abbrev pub decreases-substitution::substitute_if : goal.decreases-substitution::substitute_if
decreases-substitution::substitute_if g l = 3 * (max (size-Expr l.test_expr.now) (max (size-Expr l.then_expr.now) (size-Expr l.else_expr.now))) + 2

abbrev pub decreases-substitution::substitute_and : goal.decreases-substitution::substitute_and
decreases-substitution::substitute_and g l = 3 * (max (size-Expr l.left.now) (size-Expr l.right.now)) + 2

abbrev pub decreases-substitution::substitute_or : goal.decreases-substitution::substitute_or
decreases-substitution::substitute_or g l = 3 * (max (size-Expr l.left.now) (size-Expr l.right.now)) + 2

abbrev pub decreases-substitution::substitute_unary : goal.decreases-substitution::substitute_unary
decreases-substitution::substitute_unary g l = 3 * size-Expr l.arg.now + 2

abbrev pub decreases-substitution::substitute_binary : goal.decreases-substitution::substitute_binary
decreases-substitution::substitute_binary g l = 3 * (max (size-Expr l.arg1.now) (size-Expr l.arg2.now)) + 2

abbrev pub decreases-substitution::substitute_call : goal.decreases-substitution::substitute_call
decreases-substitution::substitute_call g l = 3 * goal.size-substitution::substitute_call g l + 2

abbrev pub decreases-substitution::substitute_attribute : goal.decreases-substitution::substitute_attribute
decreases-substitution::substitute_attribute g l = 3 * size-Expr l.expr.now + 2

abbrev pub decreases-substitution::substitute_has : goal.decreases-substitution::substitute_has
decreases-substitution::substitute_has g l = 3 * size-Expr l.expr.now + 2

abbrev pub decreases-substitution::substitute_extended_has : goal.decreases-substitution::substitute_extended_has
decreases-substitution::substitute_extended_has g l = 3 * size-Expr l.expr.now + 2

abbrev pub decreases-substitution::substitute_like : goal.decreases-substitution::substitute_like
decreases-substitution::substitute_like g l = 3 * size-Expr l.expr.now + 2

abbrev pub decreases-substitution::substitute_is : goal.decreases-substitution::substitute_is
decreases-substitution::substitute_is g l = 3 * size-Expr l.expr.now + 2
