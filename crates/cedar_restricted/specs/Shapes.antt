-- The shape of a restricted expression.
use Rattle.cedar_model.specs.Terms.{Term}
use Rattle.cedar_expressions.specs.declared.expr.Expr.{Expr}
use Rattle.cedar_restricted.specs.declared.restricted_expr.shape.RestrictedExprShapeOnly as shapes
use Rattle.cedar_restricted.specs.Views.{borrowed_expr, borrowed_term}

abbrev pub shape_expr : shapes.RestrictedExprShapeOnly → Expr
shape_expr s = borrowed_expr s.0

abbrev pub shape_term : shapes.RestrictedExprShapeOnly → Term
shape_term s = borrowed_term s.0
