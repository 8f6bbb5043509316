-- What is left of an expression, as contracts see it: an expression that holds an unknown.
use Rattle.std.specs.Prelude.{◌≡◌, true}
use base.Stored.{Coded, coded_via}
use mathlib.Core.Bool.{Bool-set}
use mathlib.Core.HLevel.{is_prop→PathP}
use Rattle.cedar_model.specs.Shapes.{has_unknown}
use Rattle.cedar_expressions.specs.declared.expr.Expr.{Expr}
use Rattle.cedar_expressions.specs.contracts.expr.Expr as expressions
use Rattle.cedar_expressions.specs.View.{view}

pub record Left : Type 0 where
  pub expr : Expr
  pub unknown : has_unknown (view expr) ≡ true

-- the expression alone tells one from another
pub same_left : (a b : Left) → a.expr ≡ b.expr → a ≡ b
same_left a b e =
    λ i. record { expr = e i; unknown = is_prop→PathP (λ j. has_unknown (view (e j)) ≡ true) (λ j. Bool-set (has_unknown (view (e j))) true) a.unknown b.unknown i }

abbrev pub left_code : Coded Left
left_code = coded_via expressions.the_row.coded (λ r. r.expr) same_left
