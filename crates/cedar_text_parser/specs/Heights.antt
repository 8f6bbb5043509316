-- How high what is read is, as an evaluator counts levels.
use Rattle.std.specs.Prelude.{ℕ, ◌≤◌}
use Rattle.cedar_model.specs.Agreement.{height}
use Rattle.cedar_expressions.specs.View.{view}
use Rattle.cedar_expressions.specs.declared.expr.Expr.{Expr}
use Rattle.cedar_text_syntax.specs.Trees as trees
use Rattle.cedar_text_syntax.specs.Trees.{Tree}
use Rattle.cedar_text_parser.specs.Building.{Is}
use Rattle.cedar_text_parser.specs.Sources.{Tokenized}

-- the expression has at most so many levels
abbrev pub IsNoHigher : ℕ → Expr → Type 0
IsNoHigher limit x = height (view x) ≤ limit

-- an expression is no higher than the tree that it is
abbrev pub TreesBoundHeights : Type 0
TreesBoundHeights =
    (source : Tokenized) (x : Expr) (p : Tree) → Is source x p → IsNoHigher (trees.height p) x
