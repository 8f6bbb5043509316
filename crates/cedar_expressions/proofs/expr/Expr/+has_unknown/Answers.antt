-- An expression's term is that of its kind.
use Rattle.std.proofs.Common.{arith}
use Rattle.cedar_expressions.proofs.Levels.{view_by_kind, kind_view-Lit, kind_view-Var, kind_view-Slot, kind_view-Unknown, kind_view-If, kind_view-And, kind_view-Or, kind_view-UnaryApp, kind_view-BinaryApp, kind_view-ExtensionFunctionApp, kind_view-GetAttr, kind_view-HasAttr, kind_view-ExtHasAttr, kind_view-Like, kind_view-Is, kind_view-Set, kind_view-Record}
use Rattle.cedar_expressions.proofs.expr.Expr.+has_unknown.Goals as goal

pub has_unknown-returns-in-Lit : goal.has_unknown-returns-in-Lit
has_unknown-returns-in-Lit t c = grind (arith, view_by_kind, kind_view-Lit)

pub has_unknown-returns-in-Var : goal.has_unknown-returns-in-Var
has_unknown-returns-in-Var t c = grind (arith, view_by_kind, kind_view-Var)

pub has_unknown-returns-in-Slot : goal.has_unknown-returns-in-Slot
has_unknown-returns-in-Slot t c = grind (arith, view_by_kind, kind_view-Slot)

pub has_unknown-returns-in-Unknown : goal.has_unknown-returns-in-Unknown
has_unknown-returns-in-Unknown t c = grind (arith, view_by_kind, kind_view-Unknown)

pub has_unknown-returns-then-has_unknown-2 : goal.has_unknown-returns-then-has_unknown-2
has_unknown-returns-then-has_unknown-2 t c = grind (arith, view_by_kind, kind_view-If)

pub has_unknown-returns-else-has_unknown-2 : goal.has_unknown-returns-else-has_unknown-2
has_unknown-returns-else-has_unknown-2 t c = grind (arith, view_by_kind, kind_view-If)

pub has_unknown-returns-then-has_unknown-3 : goal.has_unknown-returns-then-has_unknown-3
has_unknown-returns-then-has_unknown-3 t c = grind (arith, view_by_kind, kind_view-And)

pub has_unknown-returns-else-has_unknown-3 : goal.has_unknown-returns-else-has_unknown-3
has_unknown-returns-else-has_unknown-3 t c = grind (arith, view_by_kind, kind_view-And)

pub has_unknown-returns-then-has_unknown-4 : goal.has_unknown-returns-then-has_unknown-4
has_unknown-returns-then-has_unknown-4 t c = grind (arith, view_by_kind, kind_view-Or)

pub has_unknown-returns-else-has_unknown-4 : goal.has_unknown-returns-else-has_unknown-4
has_unknown-returns-else-has_unknown-4 t c = grind (arith, view_by_kind, kind_view-Or)

pub has_unknown-returns-in-UnaryApp : goal.has_unknown-returns-in-UnaryApp
has_unknown-returns-in-UnaryApp t c = grind (arith, view_by_kind, kind_view-UnaryApp)

pub has_unknown-returns-then-has_unknown-5 : goal.has_unknown-returns-then-has_unknown-5
has_unknown-returns-then-has_unknown-5 t c = grind (arith, view_by_kind, kind_view-BinaryApp)

pub has_unknown-returns-else-has_unknown-5 : goal.has_unknown-returns-else-has_unknown-5
has_unknown-returns-else-has_unknown-5 t c = grind (arith, view_by_kind, kind_view-BinaryApp)

pub has_unknown-returns-in-ExtensionFunctionApp : goal.has_unknown-returns-in-ExtensionFunctionApp
has_unknown-returns-in-ExtensionFunctionApp t c = grind (arith, view_by_kind, kind_view-ExtensionFunctionApp)

pub has_unknown-returns-in-GetAttr : goal.has_unknown-returns-in-GetAttr
has_unknown-returns-in-GetAttr t c = grind (arith, view_by_kind, kind_view-GetAttr)

pub has_unknown-returns-in-HasAttr : goal.has_unknown-returns-in-HasAttr
has_unknown-returns-in-HasAttr t c = grind (arith, view_by_kind, kind_view-HasAttr)

pub has_unknown-returns-in-ExtHasAttr : goal.has_unknown-returns-in-ExtHasAttr
has_unknown-returns-in-ExtHasAttr t c = grind (arith, view_by_kind, kind_view-ExtHasAttr)

pub has_unknown-returns-in-Like : goal.has_unknown-returns-in-Like
has_unknown-returns-in-Like t c = grind (arith, view_by_kind, kind_view-Like)

pub has_unknown-returns-in-Is : goal.has_unknown-returns-in-Is
has_unknown-returns-in-Is t c = grind (arith, view_by_kind, kind_view-Is)

pub has_unknown-returns-in-Set : goal.has_unknown-returns-in-Set
has_unknown-returns-in-Set t c = grind (arith, view_by_kind, kind_view-Set)

pub has_unknown-returns-in-Record : goal.has_unknown-returns-in-Record
has_unknown-returns-in-Record t c = grind (arith, view_by_kind, kind_view-Record)
