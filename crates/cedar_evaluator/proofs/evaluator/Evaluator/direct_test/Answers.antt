use Rattle.std.proofs.Common.{sym, ap, ◌∙◌, subst, IfSome}
use Rattle.cedar_model.specs.Terms.{binary, is_of_type}
use Rattle.cedar_model.specs.Failures.{answers_bool}
use Rattle.cedar_names.specs.Names.{type_text}
use Rattle.cedar_names.specs.Leaves.{binary_view}
use Rattle.cedar_expressions.specs.View.{view, kind_view}
use Rattle.cedar_expressions.proofs.Levels as levels
use Rattle.cedar_layers.specs.Policies.{slots_view}
use Rattle.cedar_evaluator.specs.Direct.{AnswersFrom}
use Rattle.cedar_evaluator.proofs.Direct.{bool_direct}
use Rattle.cedar_evaluator.proofs.evaluator.Evaluator.direct_test.Goals as goal

pub returns-in-Lit : goal.returns-in-Lit
returns-in-Lit g c =
    bool_direct c.args.self.now (slots_view c.args.slots.now) (view c.args.e.now) _ c.bool_in_literal.result
    (sym c.expr_kind.ensures.view ∙ ap kind_view c.in-Lit.is ∙ levels.kind_view-Lit _) c.bool_in_literal.ensures

pub returns-in-BinaryApp : goal.returns-in-BinaryApp
returns-in-BinaryApp g c =
    subst (λ t. IfSome c.direct_comparison.result (λ b. AnswersFrom c.args.self.now (slots_view c.args.slots.now) 2 t (answers_bool b)))
    ((λ i. binary (binary_view c.in-BinaryApp.op) (view (c.deref.ensures i)) (view (c.deref-in-BinaryApp.ensures i)))
    ∙ sym (levels.kind_view-BinaryApp _ _ _) ∙ sym (ap kind_view c.in-BinaryApp.is) ∙ c.expr_kind.ensures.view) c.direct_comparison.ensures

pub returns-in-Is : goal.returns-in-Is
returns-in-Is g c =
    subst (λ t. IfSome c.direct_type_test.result (λ b. AnswersFrom c.args.self.now (slots_view c.args.slots.now) 2 t (answers_bool b)))
    ((λ i. is_of_type (view (c.deref-in-Is.ensures i)) (type_text c.in-Is.entity_type))
    ∙ sym (levels.kind_view-Is _ _) ∙ sym (ap kind_view c.in-Is.is) ∙ c.expr_kind.ensures.view) c.direct_type_test.ensures
