use Rattle.std.proofs.Common.{rules}
use Rattle.cedar_expressions.specs.declared.expr.Expr.{the_lemmas}
use Rattle.cedar_expressions.specs.View.{view, kind_view}
use Rattle.cedar_expressions.proofs.expr.Expr.expr_kind.Goals as goal

pub returns-clause-view : goal.returns-clause-view
unfolding view kind_view
returns-clause-view c = search (rules, the_lemmas)
