-- What the iterators over the parts of restricted expressions have still to give.
use Rattle.std.specs.Prelude.{List}
use Rattle.std.specs.Borrow.{Bor}
use Rattle.std.specs.declared.alloc.Global.{Global}
use Rattle.std.specs.declared.rc.RcStr.{RcStr}
use Rattle.cedar_names.specs.declared.names.Name.{Name}
use Rattle.cedar_model.specs.Terms.{Text, Terms}
use Rattle.cedar_names.specs.Names.{name_text}
use Rattle.cedar_expressions.specs.View.{terms_view}
use Rattle.cedar_expressions.specs.declared.expr.Expr.{Expr}
use Rattle.cedar_restricted.specs.declared.restricted_expr.BorrowedRestrictedExpr.{BorrowedRestrictedExpr}
use Rattle.cedar_restricted.specs.declared.restricted_expr.parts.SetElements.{SetElements}
use Rattle.cedar_restricted.specs.declared.restricted_expr.parts.RecordPairs.{RecordPairs}
use Rattle.cedar_restricted.specs.declared.restricted_expr.parts.CallArguments.{CallArguments}
use Rattle.cedar_restricted.specs.Views.{borrowed_expr}

-- elements, in order
abbrev pub elements_left : SetElements → List Expr
elements_left s = s.elements.now

-- pairs of a key and a part, in order
abbrev pub pairs_left : RecordPairs → List (RcStr Global × Expr)
pairs_left r = r.pairs

-- arguments, in order
abbrev pub arguments_left : CallArguments → List Expr
arguments_left c = c.arguments.now

-- a pair that is given
abbrev pub pair_given : Bor (RcStr Global) × BorrowedRestrictedExpr → RcStr Global × Expr
pair_given p = (p.0.now, borrowed_expr p.1)

-- the function and the arguments of a call
abbrev pub call_parts : Bor Name × CallArguments → Name × List Expr
call_parts c = (c.0.now, arguments_left c.1)

abbrev pub call_terms : Bor Name × CallArguments → Text × Terms
call_terms c = (name_text c.0.now, terms_view (arguments_left c.1))
