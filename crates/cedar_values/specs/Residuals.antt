-- Residuals and partial values as plain data.
use Rattle.std.specs.Prelude.{◌≡◌, Option, Some, None, List, []}
use Rattle.cedar_model.specs.Terms.{Term}
use Rattle.cedar_model.specs.Values.{expression_of}
use Rattle.cedar_model.specs.Failures as model
use Rattle.cedar_model.specs.Failures.{value, residual}
use Rattle.cedar_names.specs.declared.names.Loc.{Loc}
use Rattle.cedar_values.specs.Sound.{Placed}
use Rattle.cedar_values.specs.declared.partial_value.ResidualExpr.{ResidualExpr}
use Rattle.cedar_values.specs.declared.partial_value.PartialValue.{PartialValue}
use Rattle.cedar_values.specs.declared.partial_value.PartialValue.TheVariants as partials
use Rattle.cedar_expressions.specs.declared.expr.Expr.{Expr}
use Rattle.cedar_expressions.specs.declared.expr.ExprKind.{ExprKind}
use Rattle.cedar_expressions.specs.View.{view, expr_loc, expr_kind_of}
use Rattle.cedar_expressions.specs.Nodes.{parts_of}

-- the term of a residual
abbrev pub residual_term : ResidualExpr → Term
residual_term r = view r.expr

-- where it stands
abbrev pub residual_loc : ResidualExpr → Option Loc
residual_loc r = expr_loc r.expr

-- its expression, whole: its location, and its parts with theirs
abbrev pub residual_expr : ResidualExpr → Expr
residual_expr r = r.expr

-- its parts, whole
abbrev pub residual_parts : ResidualExpr → List Expr
residual_parts r = parts_of (residual_expr r)

-- a copy of a residual: the same term at the same place, of the very parts
abbrev pub IsResidualCopy : ResidualExpr → ResidualExpr → Type 0
IsResidualCopy r copy =
    (residual_term copy ≡ residual_term r) × (residual_loc copy ≡ residual_loc r) × (residual_parts copy ≡ residual_parts r)

abbrev pub partial_view : PartialValue → model.PartialValue
partial_view (partials.Value v) = value v.what
partial_view (partials.Residual r) = residual (residual_term r)

-- where it stands
abbrev pub partial_loc : PartialValue → Option Loc
partial_loc (partials.Value v) = v.loc
partial_loc (partials.Residual r) = residual_loc r

-- where the values inside it stand: a residual has none
abbrev pub partial_inside : PartialValue → List (Option Loc)
partial_inside (partials.Value v) = v.inside
partial_inside (partials.Residual r) = []

-- the kind of the residual with its parts whole; a value has none
abbrev pub partial_kind : PartialValue → Option ExprKind
partial_kind (partials.Value v) = None
partial_kind (partials.Residual r) = Some (expr_kind_of (residual_expr r))

-- the parts of the residual, whole; a value has none
abbrev pub partial_parts : PartialValue → List Expr
partial_parts (partials.Value v) = []
partial_parts (partials.Residual r) = residual_parts r

-- a copy of a partial value: the same, with the same locations, and of a residual the very parts
abbrev pub IsPartialCopy : PartialValue → PartialValue → Type 0
IsPartialCopy p copy =
    (partial_view copy ≡ partial_view p) × (partial_loc copy ≡ partial_loc p) × (partial_inside copy ≡ partial_inside p) × (partial_parts copy ≡ partial_parts p)

-- where it is a residual, this is so of it
abbrev pub IfResidual : PartialValue → (ResidualExpr → Type 0) → Type 0
IfResidual (partials.Value v) P = Unit {0}
IfResidual (partials.Residual r) P = P r

-- where it is a value, this is so of it
abbrev pub IfValue : PartialValue → (Placed → Type 0) → Type 0
IfValue (partials.Value v) P = P v
IfValue (partials.Residual r) P = Unit {0}

-- its expression: that of the value, or the residual
abbrev pub partial_term : model.PartialValue → Term
partial_term (value v) = expression_of v
partial_term (residual t) = t
