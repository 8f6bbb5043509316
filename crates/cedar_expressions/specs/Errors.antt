-- What the errors of making an expression say.
use Rattle.std.specs.Prelude.{◌≡◌, ℕ, List, Option, Some, codes}
use Rattle.std.specs.Borrow.{Bor}
use Rattle.std.specs.Rc.{rc_str_bytes}
use Rattle.std.specs.declared.alloc.Global.{Global}
use Rattle.std.specs.declared.rc.RcStr.{RcStr}
use Rattle.cedar_model.specs.Terms.{Text}
use Rattle.cedar_expressions.specs.declared.errors.ExpressionConstructionError.{ExpressionConstructionError}
use Rattle.cedar_expressions.specs.declared.errors.ExpressionConstructionError.TheVariants.{DuplicateKey, Memory}
use Rattle.cedar_expressions.specs.declared.expr.Expr.{Expr}
use Rattle.cedar_model.specs.Refusals.{first_repeated}
use Rattle.cedar_expressions.specs.Records.{keys_view}

-- `result` is `error`, in this context
abbrev pub IsInContext : ExpressionConstructionError → Bor (List ℕ) → ExpressionConstructionError → Type 0
IsInContext (DuplicateKey key old) context result = result ≡ DuplicateKey key context
IsInContext (Memory error) context result = result ≡ Memory error

-- an error names the repeated key and the context, or is out of memory
abbrev pub IsRefusalOf : Option Text → Text → ExpressionConstructionError → Type 0
IsRefusalOf repeated place (DuplicateKey key context) =
    (repeated ≡ Some (rc_str_bytes key)) × (context.now ≡ place)
IsRefusalOf repeated place (Memory error) = Unit {0}

-- why there is no record of these pairs: the first duplicate key, in a record literal, or out of memory
abbrev pub IsRecordRefusal : List (RcStr Global × Expr) → ExpressionConstructionError → Type 0
IsRecordRefusal pairs = IsRefusalOf (first_repeated (keys_view pairs)) (codes "in record literal")
