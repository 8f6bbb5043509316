use Rattle.std.proofs.Common.{sym, ap, ◌∙◌, subst, Ok, IfOk}
use Rattle.cedar_values.specs.Residuals.{IfValue}
use Rattle.cedar_restricted.specs.Elements.{ElementsStand}
use Rattle.cedar_model.specs.Failures.{fails}
use Rattle.cedar_model.specs.Rules.{Meets, Runs}
use Rattle.cedar_expressions.specs.View.{view}
use Rattle.cedar_errors.specs.Answers.{partial_answer}
use Rattle.cedar_errors.specs.Failures.{failure_of}
use Rattle.cedar_interpreter.specs.Endings.{ending_answer}
use Rattle.cedar_interpreter.specs.Settings.{evaluation_setting, calls_in}
use Rattle.cedar_interpreter.proofs.evaluation.Evaluation.evaluate_owned.Goals as goal

pub returns-in-Ok-clause-answer : goal.returns-in-Ok-clause-answer
returns-in-Ok-clause-answer g c r speaks =
    let s = evaluation_setting r c.args.self.now in
    let calls = calls_in c.args.self.now in
    let t = view c.args.expr.value in
    subst (λ p. Meets (Runs s calls c.args.limit t) (partial_answer (Ok p))) (sym c.into_inner.ensures)
    (subst (λ n. Meets (Runs s calls n t) (partial_answer (Ok c.in-Ok.answer.value))) c.new-stack.ensures.limit
    (subst (λ o. Meets (Runs s calls c.new-stack.result.limit t) (ending_answer o)) c.in-Ok.is (c.interpret_on.ensures.0.answer r speaks)))

pub returns-clause-answer : goal.returns-clause-answer
returns-clause-answer g c r speaks =
    let s = evaluation_setting r c.args.self.now in
    let calls = calls_in c.args.self.now in
    let t = view c.args.expr.value in
    subst (λ n. Meets (Runs s calls n t) (fails (failure_of c.within.result))) c.new-stack.ensures.limit
    (subst (λ a. Meets (Runs s calls c.new-stack.result.limit t) a)
    (ap ending_answer c.in-Err.is ∙ sym (ap fails (c.within.ensures ∙ c.into_error.ensures)))
    (c.interpret_on.ensures.0.answer r speaks))

pub returns-in-Ok-clause-elements : goal.returns-in-Ok-clause-elements
returns-in-Ok-clause-elements g c n =
    let e = c.args.expr.value in
    subst (λ p. IfValue p (ElementsStand n e)) (sym c.into_inner.ensures)
    (subst (λ o. IfOk o (λ b. IfValue b.value (ElementsStand n e))) c.in-Ok.is (c.interpret_on.ensures.1 n))
