use Rattle.std.proofs.Common.{◌≡◌, ◌∙◌, refl, sym, subst, IfOk, true, None}
use Rattle.cedar_model.specs.Values.{abstract_value}
use Rattle.cedar_model.specs.Outcomes.{bool_of}
use Rattle.cedar_model.specs.Failures.{answers}
use Rattle.cedar_model.specs.Rules.{Runs, bool_expected}
use Rattle.cedar_expressions.specs.View.{view, expr_loc}
use Rattle.cedar_values.specs.Residuals.{partial_view}
use Rattle.cedar_interpreter.specs.declared.frame.Pending.TheVariants as pendings
use Rattle.cedar_interpreter.specs.Booleans.{part_bool}
use Rattle.cedar_interpreter.specs.Continuations.{ContinuesAt}
use Rattle.cedar_interpreter.specs.Kept.{is_residual}
use Rattle.cedar_interpreter.specs.Settings.{evaluation_setting, calls_in}
use Rattle.cedar_interpreter.specs.Tasks.{AfterLeftSide}
use Rattle.cedar_interpreter.proofs.BooleanLaws.{expects_bool}
use Rattle.cedar_interpreter.proofs.Laws.{gives_continues}
use Rattle.cedar_interpreter.proofs.evaluation.Evaluation.resume_and_or_left_no_bool.Goals as goal

pub returns-in-Value : goal.returns-in-Value
returns-in-Value g c r k =
    let e = c.args.self.now in
    let v = c.in-Value.value.what in
    let right = view c.args.right.value in
    let May = Runs (evaluation_setting r e) (calls_in e) k in
    let none : bool_of (abstract_value v) ≡ None = subst (λ p. part_bool (partial_view p) ≡ None) (sym c.deref.ensures ∙ c.in-Value.is) c.requires in
    gives_continues (evaluation_setting r e) (calls_in e) k (expr_loc c.args.whole.value) (pendings.LeftSide c.args.connective c.args.right)
    (answers (partial_view c.args.left.value)) (bool_expected v) c.no_bool.result
    (λ a ok is. subst (λ p. AfterLeftSide May c.args.connective (answers (partial_view p)) right a) (sym c.in-Value.is ∙ c.deref.ensures)
    (expects_bool May c.args.connective v right a none is)) c.no_bool.ensures

pub returns-in-Residual : goal.returns-in-Residual
returns-in-Residual g c =
    subst (λ b. IfOk c.keep_and_or_left.result (ContinuesAt c.args.self.now c.args.whole (pendings.LeftSide c.args.connective c.args.right) (answers (partial_view b.value))))
    c.new.ensures c.keep_and_or_left.ensures

pub new-requires : goal.new-requires
new-requires g c = subst (λ p. is_residual (partial_view p) ≡ true) (sym c.in-Residual.is ∙ c.deref.ensures) refl
