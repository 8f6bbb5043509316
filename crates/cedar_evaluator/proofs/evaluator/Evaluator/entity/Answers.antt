use Rattle.std.proofs.Common.{◌≡◌, sym, ap, ◌∙◌, subst, IfSome}
use Rattle.cedar_model.specs.Terms.{Term, entity_literal}
use Rattle.cedar_model.specs.Values.{plain_represented}
use Rattle.cedar_model.specs.Failures.{value, answers_value}
use Rattle.cedar_names.specs.Names.{uid_name}
use Rattle.cedar_names.specs.Leaves.{variable_view, slot_view}
use Rattle.cedar_values.specs.Residuals.{partial_view}
use Rattle.cedar_expressions.specs.View.{view, kind_view}
use Rattle.cedar_expressions.proofs.Levels as levels
use Rattle.cedar_interpreter.specs.Settings.{given_for}
use Rattle.cedar_layers.specs.Policies.{slots_view}
use Rattle.cedar_evaluator.specs.Direct.{AnswersFrom}
use Rattle.cedar_evaluator.proofs.Direct.{literal_entity_direct, slot_entity_direct, variable_entity_direct}
use Rattle.cedar_evaluator.proofs.evaluator.Evaluator.entity.Goals as goal

pub returns-in-Lit : goal.returns-in-Lit
returns-in-Lit g c =
    literal_entity_direct c.args.self.now (slots_view c.args.slots.now) (λ u. uid_name u.now) (view c.args.e.now) _ c.entity_in_literal.result
    (sym c.expr_kind.ensures.view ∙ ap kind_view c.in-Lit.is ∙ levels.kind_view-Lit _) c.entity_in_literal.ensures

pub returns-in-Slot : goal.returns-in-Slot
returns-in-Slot g c =
    let v = c.args.self.now in
    let ss = slots_view c.args.slots.now in
    subst (λ (t : Term). IfSome c.entity_in_slot.result (λ u. AnswersFrom v ss 1 t (answers_value (plain_represented (entity_literal (uid_name u.now))))))
    (sym (levels.kind_view-Slot _) ∙ sym (ap kind_view c.in-Slot.is) ∙ c.expr_kind.ensures.view)
    (slot_entity_direct v ss (λ u. uid_name u.now) (slot_view c.in-Slot.slot) c.entity_in_slot.result c.entity_in_slot.ensures)

pub returns-in-Var : goal.returns-in-Var
returns-in-Var g c =
    let v = c.args.self.now in
    let x = variable_view c.in-Var.var in
    let is : given_for v.given x ≡ c.given_for.result.now = sym c.given_for.ensures in
    subst (λ (t : Term). IfSome c.entity_at_hand.result (λ u. AnswersFrom v (slots_view c.args.slots.now) 1 t (answers_value (plain_represented (entity_literal (uid_name u.now))))))
    (sym (levels.kind_view-Var _) ∙ sym (ap kind_view c.in-Var.is) ∙ c.expr_kind.ensures.view)
    (variable_entity_direct v (slots_view c.args.slots.now) (λ u. uid_name u.now) x c.entity_at_hand.result
    (subst (λ p. IfSome c.entity_at_hand.result (λ u. partial_view p ≡ value (plain_represented (entity_literal (uid_name u.now))))) (sym is) c.entity_at_hand.ensures))
