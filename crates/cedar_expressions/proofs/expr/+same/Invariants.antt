use Rattle.std.proofs.Common.{◌≡◌, ◌+◌, ◌*◌, max, drop}
use Rattle.std.specs.Slice.Iter.{iter_rest}
use Rattle.cedar_names.specs.Equality.{terms_eq, fields_eq}
use Rattle.cedar_expressions.specs.declared.expr.Expr.{size-Expr}
use Rattle.cedar_expressions.specs.View.{terms_view, fields_view}
use Rattle.cedar_expressions.proofs.expr.+same.Given as goal

-- the parts seen so far are the same
abbrev pub invariant-Expr::same_parts-parts : goal.invariant-Expr::same_parts-parts
invariant-Expr::same_parts-parts l =
    terms_eq (terms_view (drop l.part-index l.parts.items)) (terms_view (iter_rest l.rest)) ≡ terms_eq (terms_view l.parts.items) (terms_view l.others.items)

abbrev pub invariant-Expr::same_pairs-pairs : goal.invariant-Expr::same_pairs-pairs
invariant-Expr::same_pairs-pairs l =
    fields_eq (fields_view l.key-iterator) (fields_view l.rest) ≡ fields_eq (fields_view l.pairs.entries) (fields_view l.others.entries)

-- an expression is larger than its parts, and what goes over parts stands above what looks at one,
-- and what a kind is of above these
abbrev pub decreases-Expr::same : goal.decreases-Expr::same
decreases-Expr::same l = 3 * goal.size-Expr::same l

abbrev pub decreases-ExprKind::same_kind : goal.decreases-ExprKind::same_kind
decreases-ExprKind::same_kind l = 3 * goal.size-ExprKind::same_kind l

abbrev pub decreases-Expr::same_parts : goal.decreases-Expr::same_parts
decreases-Expr::same_parts l = 3 * goal.size-Expr::same_parts l + 1

abbrev pub decreases-Expr::same_pairs : goal.decreases-Expr::same_pairs
decreases-Expr::same_pairs l = 3 * goal.size-Expr::same_pairs l + 1

abbrev pub decreases-equality::equals_if : goal.decreases-equality::equals_if
decreases-equality::equals_if l =
    3 * max (size-Expr l.test_expr.now) (max (size-Expr l.then_expr.now) (size-Expr l.else_expr.now)) + 2

abbrev pub decreases-equality::equals_and : goal.decreases-equality::equals_and
decreases-equality::equals_and l = 3 * max (size-Expr l.left.now) (size-Expr l.right.now) + 2

abbrev pub decreases-equality::equals_or : goal.decreases-equality::equals_or
decreases-equality::equals_or l = 3 * max (size-Expr l.left.now) (size-Expr l.right.now) + 2

abbrev pub decreases-equality::equals_unary : goal.decreases-equality::equals_unary
decreases-equality::equals_unary l = 3 * size-Expr l.arg.now + 2

abbrev pub decreases-equality::equals_binary : goal.decreases-equality::equals_binary
decreases-equality::equals_binary l = 3 * max (size-Expr l.arg1.now) (size-Expr l.arg2.now) + 2

abbrev pub decreases-equality::equals_call : goal.decreases-equality::equals_call
decreases-equality::equals_call l = 3 * goal.size-equality::equals_call l + 2

abbrev pub decreases-equality::equals_attribute : goal.decreases-equality::equals_attribute
decreases-equality::equals_attribute l = 3 * size-Expr l.expr.now + 2

abbrev pub decreases-equality::equals_has : goal.decreases-equality::equals_has
decreases-equality::equals_has l = 3 * size-Expr l.expr.now + 2

abbrev pub decreases-equality::equals_extended_has : goal.decreases-equality::equals_extended_has
decreases-equality::equals_extended_has l = 3 * size-Expr l.expr.now + 2

abbrev pub decreases-equality::equals_like : goal.decreases-equality::equals_like
decreases-equality::equals_like l = 3 * size-Expr l.expr.now + 2

abbrev pub decreases-equality::equals_type_test : goal.decreases-equality::equals_type_test
decreases-equality::equals_type_test l = 3 * size-Expr l.expr.now + 2

abbrev pub decreases-equality::equals_set : goal.decreases-equality::equals_set
decreases-equality::equals_set l = 3 * goal.size-equality::equals_set l + 2

abbrev pub decreases-equality::equals_record : goal.decreases-equality::equals_record
decreases-equality::equals_record l = 3 * goal.size-equality::equals_record l + 2
