use Rattle.std.proofs.Common.{◌≡◌, sym, ap, ◌∙◌, subst, IfSome}
use Rattle.cedar_model.specs.Terms.{entity_literal, binary, variable, eq_operator}
use Rattle.cedar_model.specs.Values.{plain_represented}
use Rattle.cedar_model.specs.Failures.{value, answers_bool}
use Rattle.cedar_names.specs.declared.operators.BinaryOp.{BinaryOp}
use Rattle.cedar_names.specs.Names.{uid_name}
use Rattle.cedar_names.specs.Leaves.{variable_view, binary_view}
use Rattle.cedar_values.specs.Residuals.{partial_view}
use Rattle.cedar_interpreter.specs.Settings.{given_for}
use Rattle.cedar_evaluator.specs.Direct.{AnswersFrom}
use Rattle.cedar_evaluator.proofs.Direct.{equal_direct, in_direct}
use Rattle.cedar_evaluator.proofs.evaluator.Evaluator.direct_relation.Goals as goal

pub returns-in-Eq : goal.returns-in-Eq
returns-in-Eq g c slots t direct =
    let v = c.args.self.now in
    let x = variable_view c.args.var in
    let is : partial_view (given_for v.given x) ≡ value (plain_represented (entity_literal (uid_name c.in-Some.uid.now))) =
    ap partial_view (sym c.given_for.ensures) ∙ c.in-Some.ensures in
    subst (λ (op : BinaryOp). AnswersFrom v slots 2 (binary (binary_view op) (variable x) t) (answers_bool c.eq.result)) (sym c.in-Eq.is)
    (subst (λ b. AnswersFrom v slots 2 (binary eq_operator (variable x) t) (answers_bool b)) (sym c.eq.ensures)
    (equal_direct v slots x t (uid_name c.in-Some.uid.now) (uid_name c.args.other.now) is direct))

pub returns-in-In : goal.returns-in-In
returns-in-In g c slots t direct =
    let v = c.args.self.now in
    let x = variable_view c.args.var in
    let is : partial_view (given_for v.given x) ≡ value (plain_represented (entity_literal (uid_name c.in-Some.uid.now))) =
    ap partial_view (sym c.given_for.ensures) ∙ c.in-Some.ensures in
    subst (λ (op : BinaryOp). IfSome c.is_in.result (λ b. AnswersFrom v slots 2 (binary (binary_view op) (variable x) t) (answers_bool b))) (sym c.in-In.is)
    (in_direct v slots x t (uid_name c.in-Some.uid.now) (uid_name c.args.other.now) is direct c.is_in.result c.is_in.ensures)
