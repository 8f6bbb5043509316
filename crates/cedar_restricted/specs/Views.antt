-- What restricted expressions are seen as.
use Rattle.std.specs.Prelude.{List, map, Option}
use Rattle.std.specs.declared.alloc.Global.{Global}
use Rattle.std.specs.declared.rc.RcStr.{RcStr}
use Rattle.cedar_model.specs.Terms.{Term}
use Rattle.cedar_names.specs.declared.names.Loc.{Loc}
use Rattle.cedar_expressions.specs.declared.expr.Expr.{Expr}
use Rattle.cedar_expressions.specs.View.{view, expr_loc}
use Rattle.cedar_restricted.specs.declared.restricted_expr.RestrictedExpr.{RestrictedExpr}
use Rattle.cedar_restricted.specs.declared.restricted_expr.BorrowedRestrictedExpr.{BorrowedRestrictedExpr}

-- the expression, with its locations
abbrev pub expr_in : RestrictedExpr → Expr
expr_in r = r.expr

-- its term
abbrev pub restricted_term : RestrictedExpr → Term
restricted_term r = view r.expr

-- where it stands
abbrev pub restricted_loc : RestrictedExpr → Option Loc
restricted_loc r = expr_loc r.expr

-- the same of a borrowed one
abbrev pub borrowed_expr : BorrowedRestrictedExpr → Expr
borrowed_expr b = b.expr.now

abbrev pub borrowed_term : BorrowedRestrictedExpr → Term
borrowed_term b = view b.expr.now

abbrev pub borrowed_loc : BorrowedRestrictedExpr → Option Loc
borrowed_loc b = expr_loc b.expr.now

-- the expressions of a list
abbrev pub exprs_in : List RestrictedExpr → List Expr
exprs_in = map expr_in

-- pairs of a key and an expression
abbrev pub pairs_in : List (RcStr Global × RestrictedExpr) → List (RcStr Global × Expr)
pairs_in = map (λ p. (p.0, expr_in p.1))
