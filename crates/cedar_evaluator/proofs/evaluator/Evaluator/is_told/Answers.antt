use Rattle.std.proofs.Common.{sym, ap, ◌∙◌, subst}
use Rattle.cedar_model.specs.Terms.{Term, binary}
use Rattle.cedar_names.specs.Leaves.{binary_view}
use Rattle.cedar_expressions.specs.View.{view, kind_view}
use Rattle.cedar_expressions.proofs.Levels as levels
use Rattle.cedar_layers.specs.Policies.{slots_view}
use Rattle.cedar_evaluator.specs.Direct.{IsTold}
use Rattle.cedar_evaluator.proofs.Direct.{literal_told}
use Rattle.cedar_evaluator.proofs.evaluator.Evaluator.is_told.Goals as goal

pub returns-in-Lit : goal.returns-in-Lit
returns-in-Lit g c h =
    literal_told c.args.self.now (slots_view c.args.slots.now) (view c.args.e.now) _ c.bool_in_literal.result
    (sym c.expr_kind.ensures.view ∙ ap kind_view c.in-Lit.is ∙ levels.kind_view-Lit _) c.bool_in_literal.ensures (sym c.is_some.ensures ∙ h)

pub returns-in-BinaryApp : goal.returns-in-BinaryApp
returns-in-BinaryApp g c h =
    subst (λ (t : Term). IsTold c.args.self.now (slots_view c.args.slots.now) t)
    ((λ i. binary (binary_view c.in-BinaryApp.op) (view (c.deref.ensures i)) (view (c.deref-in-BinaryApp.ensures i)))
    ∙ sym (levels.kind_view-BinaryApp _ _ _) ∙ sym (ap kind_view c.in-BinaryApp.is) ∙ c.expr_kind.ensures.view) (c.is_told_comparison.ensures h)
