-- What is left of a context, as contracts see it: restricted expressions under their names, of which one or more hold an unknown.
use Rattle.std.specs.Prelude.{◌≡◌, true}
use Rattle.std.specs.declared.alloc.Global.{Global}
use Rattle.std.specs.declared.rc.RcStr.{RcStr}
use Rattle.std.specs.declared.collections.BTreeMap.{BTreeMap}
use mathlib.Core.Bool.{Bool-set}
use mathlib.Core.HLevel.{is_prop→PathP}
use Rattle.cedar_model.specs.Shapes.{are_restricted_at, have_unknown_at}
use Rattle.cedar_expressions.specs.declared.expr.Expr.{Expr}
use Rattle.cedar_expressions.specs.View.{fields_view}

pub record LeftPairs : Type 0 where
  pub pairs : BTreeMap (RcStr Global) Expr Global
  pub restricted : are_restricted_at (fields_view pairs.entries) ≡ true
  pub unknown : have_unknown_at (fields_view pairs.entries) ≡ true

-- the expressions alone tell one from another
pub same_left_pairs : (a b : LeftPairs) → a.pairs ≡ b.pairs → a ≡ b
same_left_pairs a b e =
    λ i. record { pairs = e i; restricted = is_prop→PathP (λ j. are_restricted_at (fields_view (e j).entries) ≡ true) (λ j. Bool-set (are_restricted_at (fields_view (e j).entries)) true) a.restricted b.restricted i; unknown = is_prop→PathP (λ j. have_unknown_at (fields_view (e j).entries) ≡ true) (λ j. Bool-set (have_unknown_at (fields_view (e j).entries)) true) a.unknown b.unknown i }
