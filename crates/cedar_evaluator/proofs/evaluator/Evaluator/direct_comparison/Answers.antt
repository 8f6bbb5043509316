use Rattle.std.proofs.Common.{sym, ap, ◌∙◌, subst, IfSome}
use Rattle.cedar_model.specs.Terms.{binary}
use Rattle.cedar_model.specs.Failures.{answers_bool}
use Rattle.cedar_names.specs.Leaves.{binary_view}
use Rattle.cedar_expressions.specs.View.{view, kind_view}
use Rattle.cedar_expressions.proofs.Levels as levels
use Rattle.cedar_layers.specs.Policies.{slots_view}
use Rattle.cedar_evaluator.specs.Direct.{AnswersFrom}
use Rattle.cedar_evaluator.proofs.evaluator.Evaluator.direct_comparison.Goals as goal

pub returns-in-Some : goal.returns-in-Some
returns-in-Some g c =
    subst (λ t. IfSome c.direct_relation.result (λ b. AnswersFrom c.args.self.now (slots_view c.args.slots.now) 2 (binary (binary_view c.args.op) t (view c.args.right.now)) (answers_bool b)))
    (sym (levels.kind_view-Var _) ∙ sym (ap kind_view c.in-Var.is) ∙ c.expr_kind.ensures.view)
    (c.direct_relation.ensures (slots_view c.args.slots.now) (view c.args.right.now) c.in-Some.ensures)
