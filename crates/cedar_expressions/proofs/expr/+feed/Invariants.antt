use Rattle.std.proofs.Common.{◌≡◌, ◌+◌, ◌*◌, max, drop, fold}
use Rattle.cedar_names.specs.Hashing.{fed_terms, fed_fields}
use Rattle.cedar_expressions.specs.declared.expr.Expr.{size-Expr}
use Rattle.cedar_expressions.specs.View.{terms_view, fields_view}
use Rattle.cedar_expressions.proofs.expr.+feed.Given as goal

-- what is left, fed to the hasher as it is, gives what all gives it
abbrev pub invariant-Expr::feed_parts-parts : goal.invariant-Expr::feed_parts-parts
invariant-Expr::feed_parts-parts g l =
    fold g.H.Hasher.write l.state (fed_terms (terms_view (drop l.part-index l.parts.items))) ≡ fold g.H.Hasher.write l.initial.state (fed_terms (terms_view l.parts.items))

abbrev pub invariant-Expr::feed_pairs-pairs : goal.invariant-Expr::feed_pairs-pairs
invariant-Expr::feed_pairs-pairs g l =
    fold g.H.Hasher.write l.state (fed_fields (fields_view l.key-iterator)) ≡ fold g.H.Hasher.write l.initial.state (fed_fields (fields_view l.pairs.entries))

-- an expression is larger than its parts, and what goes over parts stands above what looks at one,
-- and what a kind is of above these
abbrev pub decreases-Expr::feed : goal.decreases-Expr::feed
decreases-Expr::feed g l = 3 * goal.size-Expr::feed g l

abbrev pub decreases-ExprKind::feed_kind : goal.decreases-ExprKind::feed_kind
decreases-ExprKind::feed_kind g l = 3 * goal.size-ExprKind::feed_kind g l

abbrev pub decreases-Expr::feed_parts : goal.decreases-Expr::feed_parts
decreases-Expr::feed_parts g l = 3 * goal.size-Expr::feed_parts g l + 1

abbrev pub decreases-Expr::feed_pairs : goal.decreases-Expr::feed_pairs
decreases-Expr::feed_pairs g l = 3 * goal.size-Expr::feed_pairs g l + 1

abbrev pub decreases-hashing::feed_if : goal.decreases-hashing::feed_if
decreases-hashing::feed_if g l =
    3 * max (size-Expr l.test_expr.now) (max (size-Expr l.then_expr.now) (size-Expr l.else_expr.now)) + 2

abbrev pub decreases-hashing::feed_and : goal.decreases-hashing::feed_and
decreases-hashing::feed_and g l = 3 * max (size-Expr l.left.now) (size-Expr l.right.now) + 2

abbrev pub decreases-hashing::feed_or : goal.decreases-hashing::feed_or
decreases-hashing::feed_or g l = 3 * max (size-Expr l.left.now) (size-Expr l.right.now) + 2

abbrev pub decreases-hashing::feed_unary_app : goal.decreases-hashing::feed_unary_app
decreases-hashing::feed_unary_app g l = 3 * size-Expr l.arg.now + 2

abbrev pub decreases-hashing::feed_binary_app : goal.decreases-hashing::feed_binary_app
decreases-hashing::feed_binary_app g l = 3 * max (size-Expr l.arg1.now) (size-Expr l.arg2.now) + 2

abbrev pub decreases-hashing::feed_call : goal.decreases-hashing::feed_call
decreases-hashing::feed_call g l = 3 * goal.size-hashing::feed_call g l + 2

abbrev pub decreases-hashing::feed_attribute : goal.decreases-hashing::feed_attribute
decreases-hashing::feed_attribute g l = 3 * size-Expr l.expr.now + 2

abbrev pub decreases-hashing::feed_has : goal.decreases-hashing::feed_has
decreases-hashing::feed_has g l = 3 * size-Expr l.expr.now + 2

abbrev pub decreases-hashing::feed_extended_has : goal.decreases-hashing::feed_extended_has
decreases-hashing::feed_extended_has g l = 3 * size-Expr l.expr.now + 2

abbrev pub decreases-hashing::feed_like : goal.decreases-hashing::feed_like
decreases-hashing::feed_like g l = 3 * size-Expr l.expr.now + 2

abbrev pub decreases-hashing::feed_type_test : goal.decreases-hashing::feed_type_test
decreases-hashing::feed_type_test g l = 3 * size-Expr l.expr.now + 2

abbrev pub decreases-hashing::feed_set : goal.decreases-hashing::feed_set
decreases-hashing::feed_set g l = 3 * goal.size-hashing::feed_set g l + 2

abbrev pub decreases-hashing::feed_record : goal.decreases-hashing::feed_record
decreases-hashing::feed_record g l = 3 * goal.size-hashing::feed_record g l + 2
