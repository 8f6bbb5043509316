use Rattle.std.proofs.Common.{sym, ap, ◌∙◌, subst}
use Rattle.cedar_model.specs.Terms.{Term, binary}
use Rattle.cedar_names.specs.Names.{uid_name}
use Rattle.cedar_names.specs.Leaves.{variable_view, binary_view}
use Rattle.cedar_expressions.specs.View.{view, kind_view}
use Rattle.cedar_expressions.proofs.Levels as levels
use Rattle.cedar_layers.specs.Policies.{slots_view}
use Rattle.cedar_evaluator.specs.Direct.{IsTold}
use Rattle.cedar_evaluator.proofs.Direct.{comparison_told}
use Rattle.cedar_evaluator.proofs.evaluator.Evaluator.is_told_comparison.Goals as goal

pub returns-then-is_at_hand : goal.returns-then-is_at_hand
returns-then-is_at_hand g c h =
    let v = c.args.self.now in
    let slots = slots_view c.args.slots.now in
    subst (λ (t : Term). IsTold v slots (binary (binary_view c.args.op) t (view c.args.right.now)))
    (sym (levels.kind_view-Var _) ∙ sym (ap kind_view c.in-Var.is) ∙ c.expr_kind.ensures.view)
    (comparison_told v slots (λ u. uid_name u.now) (binary_view c.args.op) (variable_view c.in-Var.var) (view c.args.right.now) c.entity.result
    (c.compares.ensures c.if-compares.true) (c.is_at_hand.ensures c.if-is_at_hand.true) c.entity.ensures (sym c.is_some.ensures ∙ h))
