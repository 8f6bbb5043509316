-- Builders, as contracts see them: what was made on the way, and not where memory is taken.
use Rattle.std.specs.Prelude.{Result}
use Rattle.std.specs.declared.alloc.AllocError.{AllocError}
use Rattle.std.specs.declared.alloc.Global.{Global}
use Rattle.std.specs.declared.rc.RcStr.{RcStr}
use Rattle.cedar_expressions.specs.declared.expr.Expr.{Expr}

pub record ExprFields : Type 0 where
  pub built : Result Expr AllocError

pub record KeyedFields : Type 0 where
  pub built : Result (RcStr Global × Expr) AllocError
