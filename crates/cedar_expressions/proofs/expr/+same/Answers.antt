use Rattle.std.proofs.Common.{arith, sym, ◌∙◌}
use Rattle.std.specs.Slice.Iter.{iter_rest}
use Rattle.std.proofs.lemmas.List.{nil_from_length}
use Rattle.cedar_expressions.proofs.Levels.{kind_view-Lit, kind_view-Var, kind_view-Slot, kind_view-Unknown}
use Rattle.cedar_expressions.proofs.Levels.{kind_view-If, kind_view-And, kind_view-Or, kind_view-UnaryApp}
use Rattle.cedar_expressions.proofs.Levels.{kind_view-BinaryApp}
use Rattle.cedar_expressions.proofs.Levels.{kind_view-ExtensionFunctionApp, kind_view-GetAttr, kind_view-HasAttr}
use Rattle.cedar_expressions.proofs.Levels.{kind_view-ExtHasAttr, kind_view-Like, kind_view-Is, kind_view-Set}
use Rattle.cedar_expressions.proofs.Levels.{kind_view-Record}
use Rattle.cedar_expressions.proofs.Equality.{term_eq-if, term_eq-both, term_eq-either, term_eq-binary}
use Rattle.cedar_expressions.proofs.Walks.{terms_step, terms_short, terms_end, terms_over, and_when, and_unless}
use Rattle.cedar_expressions.proofs.expr.+same.Goals as goal

pub Expr::same_parts-parts-preserved : goal.Expr::same_parts-parts-preserved
Expr::same_parts-parts-preserved t c =
    sym (terms_step c.args.parts.now.items c.deref-part-items.result.now (iter_rest c.parts.rest) c.parts.part-index c.deref-part-items.ensures.value (iter_rest c.next.new.self) c.part-item.result c.in-Some.other.now c.same.result c.parts-test.true c.part-item.is c.in-Some.ensures.steps c.same.ensures ∙ and_when _ _ c.if-not-same.false) ∙ c.parts.invariant

pub Expr::same_parts-returns-then-not-same : goal.Expr::same_parts-returns-then-not-same
Expr::same_parts-returns-then-not-same t c =
    sym (sym c.parts.invariant ∙ terms_step c.args.parts.now.items c.deref-part-items.result.now (iter_rest c.parts.rest) c.parts.part-index c.deref-part-items.ensures.value (iter_rest c.next.new.self) c.part-item.result c.in-Some.other.now c.same.result c.parts-test.true c.part-item.is c.in-Some.ensures.steps c.same.ensures ∙ and_unless _ _ c.if-not-same.true)

pub Expr::same_parts-returns-in_default : goal.Expr::same_parts-returns-in_default
Expr::same_parts-returns-in_default t c =
    sym (sym c.parts.invariant ∙ terms_short c.args.parts.now.items c.deref-part-items.result.now (iter_rest c.parts.rest) c.parts.part-index c.deref-part-items.ensures.value c.part-item.result c.parts-test.true (nil_from_length (iter_rest c.parts.rest) c.in_default.ensures.steps.0))

pub Expr::same_parts-returns : goal.Expr::same_parts-returns
Expr::same_parts-returns t c =
    sym (sym c.parts.invariant ∙ terms_end c.args.parts.now.items c.deref-part-items.result.now (iter_rest c.parts.rest) c.parts.part-index c.deref-part-items.ensures.value c.parts-test.false ∙ terms_over c.parts.rest c.next-2.new.self c.next-2.result c.is_none.result c.next-2.ensures.steps c.is_none.ensures)

pub ExprKind::same_kind-returns-in-Lit : goal.ExprKind::same_kind-returns-in-Lit
ExprKind::same_kind-returns-in-Lit t c = grind (arith, kind_view-Lit)

pub ExprKind::same_kind-returns-in-Var : goal.ExprKind::same_kind-returns-in-Var
ExprKind::same_kind-returns-in-Var t c = grind (arith, kind_view-Var)

pub ExprKind::same_kind-returns-in-Slot : goal.ExprKind::same_kind-returns-in-Slot
ExprKind::same_kind-returns-in-Slot t c = grind (arith, kind_view-Slot)

pub ExprKind::same_kind-returns-in-Unknown : goal.ExprKind::same_kind-returns-in-Unknown
ExprKind::same_kind-returns-in-Unknown t c = grind (arith, kind_view-Unknown)

pub ExprKind::same_kind-returns-in-If : goal.ExprKind::same_kind-returns-in-If
ExprKind::same_kind-returns-in-If t c = grind (arith, kind_view-If)

pub ExprKind::same_kind-returns-in-And : goal.ExprKind::same_kind-returns-in-And
ExprKind::same_kind-returns-in-And t c = grind (arith, kind_view-And)

pub ExprKind::same_kind-returns-in-Or : goal.ExprKind::same_kind-returns-in-Or
ExprKind::same_kind-returns-in-Or t c = grind (arith, kind_view-Or)

pub ExprKind::same_kind-returns-in-UnaryApp : goal.ExprKind::same_kind-returns-in-UnaryApp
ExprKind::same_kind-returns-in-UnaryApp t c = grind (arith, kind_view-UnaryApp)

pub ExprKind::same_kind-returns-in-BinaryApp : goal.ExprKind::same_kind-returns-in-BinaryApp
ExprKind::same_kind-returns-in-BinaryApp t c = grind (arith, kind_view-BinaryApp)

pub ExprKind::same_kind-returns-in-ExtensionFunctionApp : goal.ExprKind::same_kind-returns-in-ExtensionFunctionApp
ExprKind::same_kind-returns-in-ExtensionFunctionApp t c = grind (arith, kind_view-ExtensionFunctionApp)

pub ExprKind::same_kind-returns-in-GetAttr : goal.ExprKind::same_kind-returns-in-GetAttr
ExprKind::same_kind-returns-in-GetAttr t c = grind (arith, kind_view-GetAttr)

pub ExprKind::same_kind-returns-in-HasAttr : goal.ExprKind::same_kind-returns-in-HasAttr
ExprKind::same_kind-returns-in-HasAttr t c = grind (arith, kind_view-HasAttr)

pub ExprKind::same_kind-returns-in-ExtHasAttr : goal.ExprKind::same_kind-returns-in-ExtHasAttr
ExprKind::same_kind-returns-in-ExtHasAttr t c = grind (arith, kind_view-ExtHasAttr)

pub ExprKind::same_kind-returns-in-Like : goal.ExprKind::same_kind-returns-in-Like
ExprKind::same_kind-returns-in-Like t c = grind (arith, kind_view-Like)

pub ExprKind::same_kind-returns-in-Is : goal.ExprKind::same_kind-returns-in-Is
ExprKind::same_kind-returns-in-Is t c = grind (arith, kind_view-Is)

pub ExprKind::same_kind-returns-in-Set : goal.ExprKind::same_kind-returns-in-Set
ExprKind::same_kind-returns-in-Set t c = grind (arith, kind_view-Set)

pub ExprKind::same_kind-returns-in-Record : goal.ExprKind::same_kind-returns-in-Record
ExprKind::same_kind-returns-in-Record t c = grind (arith, kind_view-Record)

pub equality::equals_and-returns-then-same : goal.equality::equals_and-returns-then-same
equality::equals_and-returns-then-same t c = grind (arith, kind_view-And, term_eq-both)

pub equality::equals_or-returns-then-same : goal.equality::equals_or-returns-then-same
equality::equals_or-returns-then-same t c = grind (arith, kind_view-Or, term_eq-either)

pub equality::equals_binary-returns-then-same : goal.equality::equals_binary-returns-then-same
equality::equals_binary-returns-then-same t c = grind (arith, kind_view-BinaryApp, term_eq-binary)

pub equality::equals_if-returns-then-same-2 : goal.equality::equals_if-returns-then-same-2
equality::equals_if-returns-then-same-2 t c = grind (arith, kind_view-If, term_eq-if)
