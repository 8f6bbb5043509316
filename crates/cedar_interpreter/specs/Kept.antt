-- Best effort: an error that is neither the recursion limit nor running out of memory keeps the part that failed.
use Rattle.std.specs.Prelude.{◌≡◌, Bool, true, false, Result, IfOk}
use Rattle.std.specs.declared.alloc.AllocError.{AllocError}
use Rattle.cedar_model.specs.Failures.{PartialValue, value, residual, Answer}
use Rattle.cedar_model.specs.Rules.{best, kept}
use Rattle.cedar_expressions.specs.declared.expr.Expr.{Expr}
use Rattle.cedar_expressions.specs.View.{view}

-- what best effort keeps of the part after this answer, unless out of memory
abbrev pub IsKept : Result Expr AllocError → Answer → Expr → Type 0
IsKept m x part = IfOk m (λ e. best x (view part) ≡ kept (view e))

-- whether it is a residual, beside which other parts are kept
abbrev pub is_residual : PartialValue → Bool
is_residual (value v) = false
is_residual (residual t) = true
