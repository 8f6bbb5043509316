-- A restricted expression, as contracts see it: an expression that is restricted.
use Rattle.std.specs.Prelude.{◌≡◌, true}
use base.Stored.{Coded, coded_via}
use mathlib.Core.Bool.{Bool-set}
use mathlib.Core.HLevel.{is_prop→PathP}
use Rattle.cedar_model.specs.Shapes.{is_restricted}
use Rattle.cedar_expressions.specs.declared.expr.Expr.{Expr}
use Rattle.cedar_expressions.specs.contracts.expr.Expr as expressions
use Rattle.cedar_expressions.specs.View.{view}

pub record Restricted : Type 0 where
  pub expr : Expr
  pub restricted : is_restricted (view expr) ≡ true

-- the expression alone tells one from another
pub same_restricted : (a b : Restricted) → a.expr ≡ b.expr → a ≡ b
same_restricted a b e =
    λ i. record { expr = e i; restricted = is_prop→PathP (λ j. is_restricted (view (e j)) ≡ true) (λ j. Bool-set (is_restricted (view (e j))) true) a.restricted b.restricted i }

abbrev pub restricted_code : Coded Restricted
restricted_code = coded_via expressions.the_row.coded (λ r. r.expr) same_restricted
