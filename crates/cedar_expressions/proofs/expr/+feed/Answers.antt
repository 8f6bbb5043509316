use Rattle.std.proofs.Common.{arith, fold, drop, ◌+◌, ap, sym, ◌∙◌}
use Rattle.cedar_names.specs.Hashing.{fed_term, fed_terms}
use Rattle.cedar_expressions.specs.View.{view, terms_view}
use Rattle.cedar_expressions.proofs.Levels.{kind_view-Lit, kind_view-Var, kind_view-Slot, kind_view-Unknown}
use Rattle.cedar_expressions.proofs.Levels.{kind_view-If, kind_view-And, kind_view-Or, kind_view-UnaryApp}
use Rattle.cedar_expressions.proofs.Levels.{kind_view-BinaryApp}
use Rattle.cedar_expressions.proofs.Levels.{kind_view-ExtensionFunctionApp, kind_view-GetAttr, kind_view-HasAttr}
use Rattle.cedar_expressions.proofs.Levels.{kind_view-ExtHasAttr, kind_view-Like, kind_view-Is, kind_view-Set}
use Rattle.cedar_expressions.proofs.Levels.{kind_view-Record}
use Rattle.cedar_expressions.proofs.Hashing.{fed_step, fed_end}
use Rattle.cedar_expressions.proofs.expr.+feed.Goals as goal

pub Expr::feed_parts-parts-preserved : goal.Expr::feed_parts-parts-preserved
Expr::feed_parts-parts-preserved g t c =
    let rest = fed_terms (terms_view (drop (c.parts.part-index + 1) c.args.parts.now.items)) in
    ap (λ s. fold g.H.Hasher.write s rest) (c.feed.ensures ∙ ap (λ s. fold g.H.Hasher.write s (fed_term (view c.part-item.result))) c.write_u8.ensures) ∙ sym (fed_step g.H.Hasher.write c.parts.state c.args.parts.now.items c.deref-part-items.result.now c.parts.part-index c.deref-part-items.ensures.value c.part-item.result c.parts-test.true c.part-item.is) ∙ c.parts.invariant

pub Expr::feed_parts-returns : goal.Expr::feed_parts-returns
Expr::feed_parts-returns g t c =
    c.write_u8-2.ensures ∙ sym (fed_end g.H.Hasher.write c.parts.state c.args.parts.now.items c.deref-part-items.result.now c.parts.part-index c.deref-part-items.ensures.value c.parts-test.false) ∙ c.parts.invariant

pub ExprKind::feed_kind-returns-in-Lit : goal.ExprKind::feed_kind-returns-in-Lit
ExprKind::feed_kind-returns-in-Lit g t c = grind (arith, kind_view-Lit)

pub ExprKind::feed_kind-returns-in-Var : goal.ExprKind::feed_kind-returns-in-Var
ExprKind::feed_kind-returns-in-Var g t c = grind (arith, kind_view-Var)

pub ExprKind::feed_kind-returns-in-Slot : goal.ExprKind::feed_kind-returns-in-Slot
ExprKind::feed_kind-returns-in-Slot g t c = grind (arith, kind_view-Slot)

pub ExprKind::feed_kind-returns-in-Unknown : goal.ExprKind::feed_kind-returns-in-Unknown
ExprKind::feed_kind-returns-in-Unknown g t c = grind (arith, kind_view-Unknown)

pub ExprKind::feed_kind-returns-in-If : goal.ExprKind::feed_kind-returns-in-If
ExprKind::feed_kind-returns-in-If g t c = grind (arith, kind_view-If)

pub ExprKind::feed_kind-returns-in-And : goal.ExprKind::feed_kind-returns-in-And
ExprKind::feed_kind-returns-in-And g t c = grind (arith, kind_view-And)

pub ExprKind::feed_kind-returns-in-Or : goal.ExprKind::feed_kind-returns-in-Or
ExprKind::feed_kind-returns-in-Or g t c = grind (arith, kind_view-Or)

pub ExprKind::feed_kind-returns-in-UnaryApp : goal.ExprKind::feed_kind-returns-in-UnaryApp
ExprKind::feed_kind-returns-in-UnaryApp g t c = grind (arith, kind_view-UnaryApp)

pub ExprKind::feed_kind-returns-in-BinaryApp : goal.ExprKind::feed_kind-returns-in-BinaryApp
ExprKind::feed_kind-returns-in-BinaryApp g t c = grind (arith, kind_view-BinaryApp)

pub ExprKind::feed_kind-returns-in-ExtensionFunctionApp : goal.ExprKind::feed_kind-returns-in-ExtensionFunctionApp
ExprKind::feed_kind-returns-in-ExtensionFunctionApp g t c = grind (arith, kind_view-ExtensionFunctionApp)

pub ExprKind::feed_kind-returns-in-GetAttr : goal.ExprKind::feed_kind-returns-in-GetAttr
ExprKind::feed_kind-returns-in-GetAttr g t c = grind (arith, kind_view-GetAttr)

pub ExprKind::feed_kind-returns-in-HasAttr : goal.ExprKind::feed_kind-returns-in-HasAttr
ExprKind::feed_kind-returns-in-HasAttr g t c = grind (arith, kind_view-HasAttr)

pub ExprKind::feed_kind-returns-in-ExtHasAttr : goal.ExprKind::feed_kind-returns-in-ExtHasAttr
ExprKind::feed_kind-returns-in-ExtHasAttr g t c = grind (arith, kind_view-ExtHasAttr)

pub ExprKind::feed_kind-returns-in-Like : goal.ExprKind::feed_kind-returns-in-Like
ExprKind::feed_kind-returns-in-Like g t c = grind (arith, kind_view-Like)

pub ExprKind::feed_kind-returns-in-Is : goal.ExprKind::feed_kind-returns-in-Is
ExprKind::feed_kind-returns-in-Is g t c = grind (arith, kind_view-Is)

pub ExprKind::feed_kind-returns-in-Set : goal.ExprKind::feed_kind-returns-in-Set
ExprKind::feed_kind-returns-in-Set g t c = grind (arith, kind_view-Set)

pub ExprKind::feed_kind-returns-in-Record : goal.ExprKind::feed_kind-returns-in-Record
ExprKind::feed_kind-returns-in-Record g t c = grind (arith, kind_view-Record)
